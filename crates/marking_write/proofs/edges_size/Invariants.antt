-- `edges_size` is what the edges' counts take. The invariant: the sum of those passed, of which each is at most 1. Assumes nothing.
use Prim.Native.Nat.{◌≤◌}
use mathlib.Core.Path.{◌≡◌}
use Rattle.marking_write.specs.Writing.{edge_size}
use Rattle.wire.specs.Totals.{total}
use Rattle.marking_write.proofs.edges_size.Given as goal

abbrev pub invariant-loop-j : goal.invariant-loop-j
invariant-loop-j l = (l.taken ≡ total (edge_size l.t) l.j) × (l.taken ≤ l.j)
