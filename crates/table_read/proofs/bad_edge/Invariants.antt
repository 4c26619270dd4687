-- `bad_edge` finds the lowest edge that row 3 refuses. The invariant: every edge passed is fine. Assumes nothing.
use mathlib.Core.Path.{◌≡◌}
use mathlib.Core.Bool.{true}
use Prim.Native.Nat.{ℕ, ◌<◌}
use Rattle.paper.specs.Table.{edge_fine}
use Rattle.table_read.proofs.bad_edge.Given as goal

abbrev pub invariant-loop-j : goal.invariant-loop-j
invariant-loop-j l = (k : ℕ) → k < l.j → edge_fine l.s k ≡ true
