-- `pins_fine`: every input pin, one after the other. Assumes nothing.
use Prim.Native.Nat.{ℕ, ◌<◌}
use mathlib.Core.Path.{◌≡◌}
use mathlib.Core.Bool.{true}
use mathlib.Core.List.{List}
use Rattle.paper.specs.Table.{nodes}
use Rattle.paper.specs.Marking.{Marking, pin_fine}
use Rattle.marking.specs.Reading.{NodesRead}
use Rattle.marking.proofs.reading.pins_fine.Given as goal

abbrev pub invariant-loop-p : goal.invariant-loop-p
invariant-loop-p l = (m : Marking) (b from : List ℕ) → NodesRead l.t m b from l.kept (nodes l.t) → (k : ℕ) → k < l.p → pin_fine l.t m k ≡ true
