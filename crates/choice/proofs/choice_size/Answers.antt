-- `choice_size` counts the taken ends. Assumes nothing.
use mathlib.Core.Path.{sym, ◌∙◌}
use mathlib.Core.List.{[], ◌∷◌}
use native.Mathlib.Omega.{arith}
use lib.ListN.{length-append}
use Rattle.choice.specs.Choice.{numbers}
use Rattle.choice.proofs.Laws.{numbers-none, numbers_in, numbers-out}
use Rattle.choice.proofs.choice_size.Goals as goal
use Rattle.choice.proofs.choice_size.Goals.{then-is_taken, else-is_taken}

pub loop-k-init : goal.loop-k-init
loop-k-init c = (omega arith, rw (numbers-none c.args.c))

pub loop-k-preserved : goal.loop-k-preserved
loop-k-preserved c = let a = c.args in
    let s = c.loop-k in
    elim c.if-is_taken.branch [
      | then-is_taken w ↦ (omega arith, w.many-is ∙ rw (numbers_in a.c s.k (sym c.is_taken.ensures ∙ w.if-is_taken.true)) (omega (arith, s.invariant.1, length-append (numbers a.c s.k) (s.k ∷ []))))
      | else-is_taken w ↦ (omega arith, w.many-is ∙ rw (numbers-out a.c s.k (sym c.is_taken.ensures ∙ w.if-is_taken.false)) s.invariant.1)
    ]
