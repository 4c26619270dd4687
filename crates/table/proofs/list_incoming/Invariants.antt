-- `table::list_incoming` meets its contract: the loop has listed the edges from j on. Assumes nothing.
use mathlib.Core.Path.{◌≡◌}
use Prim.Native.Nat.{◌≤◌}
use lib.ListN.{length}
use Rattle.paper.specs.Table.{nodes, edges, target}
use Rattle.table.proofs.Incoming.{Begun}
use Rattle.table.proofs.list_incoming.Given as goal

abbrev pub invariant-loop-j : goal.invariant-loop-j
invariant-loop-j l = ((l.j ≤ edges l.t) × ((length l.first ≡ length l.initial.first) × (length l.next ≡ length l.initial.next))) × Begun (target l.t) (edges l.t) (nodes l.t) l.first l.next l.j
