-- `crowd`: the invariant says that all but `most` of the ends of a set that passes are left. Assumes nothing.
use mathlib.Core.Path.{◌≡◌}
use mathlib.Core.Bool.{true}
use Prim.Native.Nat.{ℕ, ◌+◌, ◌≤◌}
use Rattle.pick_bounds.specs.declared.Wanted.{Wanted}
use Rattle.pick_bounds.specs.Net.{held}
use Rattle.pick_bounds.specs.Bounds.{good}
use Rattle.pick_demands.proofs.crowd.Given as goal

abbrev pub invariant-loop-most : goal.invariant-loop-most
invariant-loop-most l = (want : Wanted) (x : ℕ) → good l.net want x ≡ true → held 32 x l.ends ≤ l.most + held 32 x l.left
