-- `rivalled_end` finds the lowest taken end with a taken rival. The invariant: no end passed has one. Assumes nothing.
use mathlib.Core.Path.{◌≡◌}
use mathlib.Core.Bool.{false, ◌&&◌}
use Prim.Native.Nat.{ℕ, ◌<◌}
use Rattle.paper.specs.Lists.{has}
use Rattle.ends_masks.specs.Seating.{rivalled}
use Rattle.choice_judge.proofs.rivalled_end.Given as goal

abbrev pub invariant-loop-k : goal.invariant-loop-k
invariant-loop-k l = (j : ℕ) → j < l.k → has l.c j && rivalled l.foes l.makers l.n l.c j ≡ false
