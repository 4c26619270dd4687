-- `edges_clear`: every count of an ended marking is 0, one after the other. Assumes nothing.
use Prim.Native.Nat.{ℕ, ◌<◌}
use mathlib.Core.Path.{◌≡◌}
use mathlib.Core.Bool.{true}
use mathlib.Core.List.{List}
use Rattle.paper.specs.Marking.{Marking}
use Rattle.marking.specs.Reading.{EdgesRead, edge_clear}
use Rattle.marking.proofs.reading.edges_clear.Given as goal

abbrev pub invariant-loop-j : goal.invariant-loop-j
invariant-loop-j l = (t : List ℕ) (m : Marking) → EdgesRead t m l.tokens l.n → (k : ℕ) → k < l.j → edge_clear t m k ≡ true
