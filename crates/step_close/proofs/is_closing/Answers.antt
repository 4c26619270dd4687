-- `is_closing` looks for a taken end at an activity final. Assumes nothing.
use mathlib.Core.Path.{sym, ◌∙◌}
use mathlib.Core.Bool.{◌&&◌}
use native.Mathlib.Omega.{arith}
use borrow.Author.Count.{below_more}
use Rattle.paper.specs.Lists.{at, has}
use Rattle.paper.specs.Table.{kind as kind_of, is_activity_final}
use Rattle.paper.proofs.Counts.{any-below-none}
use Rattle.paper.proofs.Members.{in_any, below_in}
use Rattle.step_close.specs.Closing.{closes}
use Rattle.step_close.proofs.is_closing.Goals as goal

pub loop-k-init : goal.loop-k-init
loop-k-init c = (λ j l. absurd (omega arith))

pub is_last-requires : goal.is_last-requires
is_last-requires c = let p = c.requires in (p.0, omega arith, p.2 c.loop-k.k c.loop-k-test.true, omega arith)

pub returns-then-is_last : goal.returns-then-is_last
unfolding closes
returns-then-is_last c = let a = c.args in
    sym (in_any (λ k. has a.c k && is_activity_final (kind_of a.t.now (at a.target.now k))) (below_in a.n c.loop-k-test.true)
    (sym c.is_last.ensures ∙ c.if-is_last.true))

pub loop-k-preserved : goal.loop-k-preserved
loop-k-preserved c = (below_more _ _ c.loop-k.invariant (sym c.is_last.ensures ∙ c.if-is_last.false))

pub returns : goal.returns
unfolding closes
returns c = let a = c.args in
    sym (any-below-none (λ k. has a.c k && is_activity_final (kind_of a.t.now (at a.target.now k))) a.n
    (λ k l. c.loop-k.invariant k (omega arith)))
