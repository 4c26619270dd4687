-- `mark_pins`: one node after the other. The invariant: the marks are those that stood there and those of the nodes passed. Assumes nothing.
use mathlib.Core.Bool.{Bool, ◌||◌}
use Prim.Native.Nat.{ℕ}
use Rattle.paper.specs.Table.{owner as ownerOf}
use Rattle.words.specs.Marks.{MarksOf, is_marked, placed}
use Rattle.choice_agree.specs.Agreeing.{pin_wrong}
use Rattle.choice_agree.proofs.mark_pins.Given as goal

abbrev pub invariant-loop-p : goal.invariant-loop-p
invariant-loop-p l = (q : ℕ → Bool) → MarksOf q l.table.nodes l.initial.unfit → MarksOf (λ i. q i || placed (pin_wrong l.t (is_marked l.starting) l.c l.by_target) (ownerOf l.t) l.p i) l.table.nodes l.unfit
