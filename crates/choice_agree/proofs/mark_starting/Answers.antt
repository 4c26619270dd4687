-- `mark_starting`: one end after the other. The invariant: the marks are those of the actions to which a taken end belongs of those passed. Assumes nothing.
use mathlib.Core.Path.{◌≡◌, sym, ◌∙◌}
use native.Mathlib.Omega.{arith}
use Rattle.ends_masks.specs.declared.Ends.{Ends}
use Rattle.choice_agree.proofs.Starting.{starts_none, starts-taken, starts-left}
use Rattle.choice_agree.proofs.mark_starting.Goals as goal
use Rattle.choice_agree.proofs.mark_starting.Goals.{then-is_taken, else-is_taken}

pub loop-k-init : goal.loop-k-init
loop-k-init c =
    let ends_of : Ends =
    c.args.ends in
    λ b. starts_none c.args.t.now (ends_of).target (ends_of).home c.args.c b

pub loop-k-preserved : goal.loop-k-preserved
loop-k-preserved c =
    let ends_of : Ends =
    c.args.ends in
    let a = c.args in
    let e = c.is_taken.ensures in
    let p = c.loop-k in
    λ b. elim c.if-is_taken.branch [
      | then-is_taken w ↦ rw w.starting-is (starts-taken a.t.now (ends_of).target (ends_of).home a.c p.k (sym e ∙ w.if-is_taken.true) (w.mark_action-then-is_taken.ensures _ (w.mark_action.ensures _ (p.invariant b))))
      | else-is_taken w ↦ rw w.starting-is (starts-left a.t.now (ends_of).target (ends_of).home a.c p.k (sym e ∙ w.if-is_taken.false) (p.invariant b))
    ]

pub returns : goal.returns
returns c =
    let ends_of : Ends =
    c.args.ends in
    let l = c.loop-k in
    let q : l.k ≡ (ends_of).count = omega arith in
    λ b. rw q at (l.invariant b)
