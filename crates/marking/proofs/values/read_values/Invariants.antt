-- `read_values` reads a list for each node listed, in order, and leaves nothing over. The invariant: the lists passed are read, and take at most 65
-- bytes each. Assumes nothing.
use Prim.Native.Nat.{◌*◌, ◌≤◌}
use mathlib.Core.Path.{◌≡◌}
use lib.ListN.{length}
use Rattle.marking.proofs.ValueLaws.{ListsRead}
use Rattle.marking.proofs.values.read_values.Given as goal

abbrev pub invariant-loop-i : goal.invariant-loop-i
invariant-loop-i l =
    (l.from ≤ length l.b) × (l.from ≤ 65 * l.i) × (length l.place ≡ length l.initial.place) × (length l.more ≡ length l.initial.more) × ListsRead l.t l.kind l.owner l.b l.place l.more l.from l.i
