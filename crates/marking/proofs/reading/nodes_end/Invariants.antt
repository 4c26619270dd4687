-- `nodes_end` reads the nodes' fields in order and takes up each. The invariant: those passed are read, and take at most 65 bytes each. Assumes nothing.
use Prim.Native.Nat.{◌+◌, ◌*◌, ◌≤◌}
use mathlib.Core.Path.{◌≡◌}
use mathlib.Core.Bool.{Bool}
use lib.ListN.{length}
use Rattle.marking.proofs.Laws.{NodesSoFar}
use Rattle.marking.proofs.reading.nodes_end.Given as goal

abbrev pub invariant-loop-i : goal.invariant-loop-i
invariant-loop-i l =
    (l.place ≤ length l.b) × (l.place ≤ 4 + 65 * l.i) × (length l.from ≡ length l.initial.from) × (length l.kept ≡ length l.initial.kept)
    × ((e : Bool) → NodesSoFar l.t l.b e l.from l.kept l.place l.i)
