-- `mark_starting`: one end after the other. The invariant: the marks are those of the actions to which a taken end belongs of those passed. Assumes nothing.
use Rattle.words.specs.Marks.{MarksOf}
use Rattle.table.specs.Reading.{Blank}
use Rattle.choice_agree.specs.Agreeing.{starts_in}
use Rattle.choice_agree.proofs.mark_starting.Given as goal

abbrev pub invariant-loop-k : goal.invariant-loop-k
invariant-loop-k l = Blank l.initial.starting → MarksOf (starts_in l.t l.ends.target l.ends.home l.k l.c) l.table.nodes l.starting
