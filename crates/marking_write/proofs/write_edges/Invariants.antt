-- `write_edges` stores the edges' counts as one run. The invariant: those passed are stored, and the next starts where they end. Assumes nothing.
use mathlib.Core.Path.{◌≡◌}
use Prim.Native.Nat.{◌+◌}
use lib.ListN.{length}
use lib.Seq.{sets}
use Rattle.paper.specs.Lists.{below, gather}
use Rattle.wire.specs.Totals.{total}
use Rattle.marking_write.specs.Writing.{edge_size, edge_bytes}
use Rattle.marking_write.proofs.write_edges.Given as goal

abbrev pub invariant-loop-j : goal.invariant-loop-j
invariant-loop-j l = (l.to ≡ l.start + total (edge_size l.t) l.j) × (length l.out ≡ length l.initial.out)
    × (l.out ≡ sets l.initial.out l.start (gather (edge_bytes l.t l.tokens) (below l.j)))
