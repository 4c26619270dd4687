-- `bad_shape` finds the lowest node that row 4 refuses. The invariant: every node passed is fine. Assumes nothing.
use mathlib.Core.Path.{◌≡◌}
use mathlib.Core.Bool.{true}
use Prim.Native.Nat.{ℕ, ◌≤◌, ◌<◌, ◌-◌}
use Rattle.paper.specs.Limits.{limits}
use Rattle.paper.specs.Table.{nodes, shape_fine}
use Rattle.table_shape.proofs.bad_shape.Given as goal

abbrev pub invariant-loop-i : goal.invariant-loop-i
invariant-loop-i l = (k : ℕ) → k < l.i → shape_fine l.s limits k ≡ true
