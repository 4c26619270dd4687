-- `bounds_fine`: the frame, then the entries one after the other. Assumes nothing.
use Prim.Native.Nat.{ℕ, ◌<◌}
use mathlib.Core.Path.{◌≡◌}
use mathlib.Core.Bool.{true}
use Rattle.paper.specs.Offers.{bound_fine}
use Rattle.terms.proofs.bounds.bounds_fine.Given as goal

abbrev pub invariant-loop-k : goal.invariant-loop-k
invariant-loop-k l = (j : ℕ) → j < l.k → bound_fine l.x l.t j ≡ true
