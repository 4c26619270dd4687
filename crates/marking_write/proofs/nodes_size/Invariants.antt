-- `nodes_size` is what the nodes' fields take. The invariant: the sum of those passed, of which none exceeds the most that a node takes. Assumes nothing.
use mathlib.Core.Path.{◌≡◌}
use Prim.Native.Nat.{◌*◌, ◌≤◌}
use Rattle.wire.specs.Totals.{total}
use Rattle.marking_write.specs.Writing.{node_size, most_node_size}
use Rattle.marking_write.proofs.nodes_size.Given as goal

abbrev pub invariant-loop-i : goal.invariant-loop-i
invariant-loop-i l = (l.taken ≡ total (node_size l.t l.kept l.more) l.i) × (l.taken ≤ l.i * most_node_size)
