-- `write_choice`: the taken ends, one after the other. Assumes nothing.
use Rattle.choice.proofs.Laws.{Writing}
use Rattle.choice.proofs.write_choice.Given as goal

abbrev pub invariant-loop-k : goal.invariant-loop-k
invariant-loop-k l = Writing l.c l.k l.initial.out l.out l.to
