-- `shun`: the invariant says that every set that passes was kept; each turn has one end less. Assumes nothing.
use Rattle.pick_bounds.specs.declared.Wanted.{Wanted}
use Rattle.pick_bounds.specs.Bounds.{good, Keeps}
use Rattle.pick_bounds.proofs.shun.Given as goal

abbrev pub invariant-loop-left : goal.invariant-loop-left
invariant-loop-left l = (want : Wanted) → Keeps (good l.net want) l.initial.low l.low

abbrev pub decreases-loop-left : goal.decreases-loop-left
decreases-loop-left l = l.left
