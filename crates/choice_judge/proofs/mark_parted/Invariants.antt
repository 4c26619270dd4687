-- `mark_parted`: one row after the other. The invariant: the marks are those that stood there and those of the rows passed. Assumes nothing.
use Rattle.paper.specs.Lists.{at}
use Rattle.words.specs.Marks.{MarksOf, placed}
use Rattle.table.specs.Reading.{Blank}
use Rattle.choice_judge.specs.Judging.{left_out, PassedOn}
use Rattle.choice_judge.proofs.mark_parted.Given as goal

abbrev pub invariant-loop-z : goal.invariant-loop-z
invariant-loop-z l = PassedOn l.node l.parents l.w l.rows l.passed → Blank l.initial.parted → MarksOf (placed (left_out l.node l.parents l.rows l.w l.t) (at l.node) l.z) l.table.nodes l.parted
