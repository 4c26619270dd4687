-- `pick_rules::fill_rivals` meets its contract: the cells below k are filled. Assumes nothing.
use Rattle.pick_rules.proofs.Kept.{Filled}
use Rattle.pick_rules.proofs.fill_rivals.Given as goal

abbrev pub invariant-loop-k : goal.invariant-loop-k
invariant-loop-k l = Filled l.foes l.makers l.n l.net l.k
