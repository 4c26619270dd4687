-- `edges_end` reads the counts in order and takes up each. Assumes nothing.
use Prim.Native.Nat.{◌≤◌}
use mathlib.Core.Path.{◌≡◌}
use lib.ListN.{length}
use Rattle.paper.specs.Marking.{Marking}
use Rattle.marking.proofs.Laws.{EdgesSoFar}
use Rattle.marking.proofs.reading.edges_end.Given as goal

abbrev pub invariant-loop-j : goal.invariant-loop-j
invariant-loop-j l =
    (l.place ≤ length l.b) × (length l.tokens ≡ length l.initial.tokens) × ((a : Marking) → EdgesSoFar l.t l.b a l.start l.tokens l.place l.j)
