-- `write_nodes` stores the nodes' fields as one run. The invariant: the fields passed are stored, and the next starts where they end. Assumes nothing.
use mathlib.Core.Path.{◌≡◌}
use Prim.Native.Nat.{◌+◌}
use lib.ListN.{length}
use lib.Seq.{sets}
use Rattle.paper.specs.Lists.{below, gather}
use Rattle.wire.specs.Totals.{total}
use Rattle.marking_write.specs.Writing.{nodes_held, node_size, node_bytes}
use Rattle.marking_write.proofs.write_nodes.Given as goal

abbrev pub invariant-loop-i : goal.invariant-loop-i
invariant-loop-i l = (l.to ≡ 4 + total (node_size l.t l.kept l.more) l.i) × (length l.out ≡ length l.initial.out)
    × (l.out ≡ sets l.initial.out 4 (gather (node_bytes l.t l.old l.extra (nodes_held l.from l.kept l.place l.more l.runs)) (below l.i)))
