-- `mark_control` marks the control nodes. The invariant: the marks are those of the nodes passed. Assumes nothing.
use mathlib.Core.Path.{◌≡◌}
use Prim.Native.Nat.{◌≤◌, ◌-◌}
use lib.ListN.{length}
use Rattle.paper.specs.Table.{nodes, kind, is_control_node}
use Rattle.table.specs.Reading.{Blank}
use Rattle.words.specs.Marks.{MarksOf, placed}
use Rattle.table_ranks.proofs.mark_control.Given as goal

abbrev pub invariant-loop-i : goal.invariant-loop-i
invariant-loop-i l = (length l.marks ≡ length l.initial.marks) × (Blank l.initial.marks → MarksOf (placed (λ x. is_control_node (kind l.s x)) (λ x. x) l.i) (nodes l.s) l.marks)
