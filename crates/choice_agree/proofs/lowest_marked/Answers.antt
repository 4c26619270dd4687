-- `lowest_marked`: one place after the other. The invariant: nothing passed is marked. Assumes nothing.
use mathlib.Core.Path.{sym, ◌∙◌}
use native.Mathlib.Omega.{arith}
use borrow.Author.Count.{below_more}
use Rattle.paper.proofs.Lists.{lowest-none, lowest-some}
use Rattle.words.proofs.Marks.{unmarked, is-marked}
use Rattle.choice_agree.proofs.lowest_marked.Goals as goal

pub loop-i-init : goal.loop-i-init
loop-i-init c = λ k l. absurd (omega arith)

pub returns-then-marks-i-ne0 : goal.returns-then-marks-i-ne0
returns-then-marks-i-ne0 c = let l = c.loop-i in
    let g = c.loop-i-test.true in
    λ p m. sym (lowest-some p c.args.n l.i (λ k h. unmarked (p k) (sym (m.tell k (omega arith)) ∙ l.invariant k h)) (is-marked (p l.i) (λ z. c.if-marks-i-ne0.true (m.tell l.i g ∙ z))) g)

pub loop-i-preserved : goal.loop-i-preserved
loop-i-preserved c = below_more _ _ c.loop-i.invariant c.if-marks-i-ne0.false

pub returns : goal.returns
returns c = λ p m. sym (lowest-none p c.args.n (λ k h. unmarked (p k) (sym (m.tell k h) ∙ c.loop-i.invariant k (omega arith))))
