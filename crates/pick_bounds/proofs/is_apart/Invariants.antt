-- `is_apart`: the invariant says that the ends before those left have no rivals in the set. Assumes nothing.
use Rattle.pick_bounds.proofs.Pruning.{Parted}
use Rattle.pick_bounds.proofs.is_apart.Given as goal

abbrev pub invariant-loop-left : goal.invariant-loop-left
invariant-loop-left l = Parted l.net l.c l.left

abbrev pub decreases-loop-left : goal.decreases-loop-left
decreases-loop-left l = l.left
