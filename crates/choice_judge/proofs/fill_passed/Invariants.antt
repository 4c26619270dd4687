-- `fill_passed`: one row after the other. The invariant: the words say what the rows passed were made from. Assumes nothing.
use Rattle.table.specs.Reading.{Blank}
use Rattle.choice_judge.specs.Judging.{PassedOn}
use Rattle.choice_judge.proofs.fill_passed.Given as goal

abbrev pub invariant-loop-y : goal.invariant-loop-y
invariant-loop-y l = Blank l.initial.passed → PassedOn l.node l.parents l.w l.y l.passed
