-- `nodes_clear`: every node of an ended marking is clear, one after the other. Assumes nothing.
use Prim.Native.Nat.{ℕ, ◌<◌}
use mathlib.Core.Path.{◌≡◌}
use mathlib.Core.Bool.{true}
use mathlib.Core.List.{List}
use Rattle.paper.specs.Table.{nodes}
use Rattle.paper.specs.Marking.{Marking}
use Rattle.marking.specs.Reading.{NodesRead, node_clear}
use Rattle.marking.proofs.reading.nodes_clear.Given as goal

abbrev pub invariant-loop-i : goal.invariant-loop-i
invariant-loop-i l = (m : Marking) (b from : List ℕ) → NodesRead l.t m b from l.kept (nodes l.t) → (k : ℕ) → k < l.i → node_clear l.t m k ≡ true
