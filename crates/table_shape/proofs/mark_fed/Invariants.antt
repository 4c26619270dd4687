-- `mark_fed` marks the actions that a pin feeds. The invariant: the marks are those of the nodes passed. Assumes nothing.
use mathlib.Core.Path.{◌≡◌}
use mathlib.Core.Bool.{◌&&◌}
use Prim.Native.Nat.{◌≤◌, ◌-◌}
use lib.Dec.{leb}
use lib.ListN.{length}
use Rattle.paper.specs.Table.{nodes, kind, owner, lower, is_input}
use Rattle.table.specs.Reading.{Blank}
use Rattle.words.specs.Marks.{MarksOf, placed}
use Rattle.table_shape.proofs.mark_fed.Given as goal

abbrev pub invariant-loop-i : goal.invariant-loop-i
invariant-loop-i l = (length l.fed ≡ length l.initial.fed) × (Blank l.initial.fed → MarksOf (placed (λ p. is_input (kind l.s p) && leb 1 (lower l.s p)) (owner l.s) l.i) (nodes l.s) l.fed)
