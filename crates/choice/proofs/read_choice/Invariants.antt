-- `read_choice`: number by number, each higher than the one before. Assumes nothing.
use Rattle.choice.proofs.Laws.{Reading}
use Rattle.choice.proofs.read_choice.Given as goal

abbrev pub invariant-loop-k : goal.invariant-loop-k
invariant-loop-k l = Reading l.ks l.n l.c l.low l.k-index
