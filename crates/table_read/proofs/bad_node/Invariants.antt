-- `bad_node` finds the lowest node that row 2 refuses. The invariant: every node passed is fine. Assumes nothing.
use mathlib.Core.Path.{◌≡◌}
use mathlib.Core.Bool.{true}
use Prim.Native.Nat.{ℕ, ◌<◌}
use Rattle.paper.specs.Limits.{limits}
use Rattle.paper.specs.Table.{node_fine}
use Rattle.table_read.proofs.bad_node.Given as goal

abbrev pub invariant-loop-i : goal.invariant-loop-i
invariant-loop-i l = (k : ℕ) → k < l.i → node_fine l.s limits k ≡ true
