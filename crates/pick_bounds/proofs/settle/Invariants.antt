-- `settle`: the invariant says that every set that passes was kept; the measure is the slack before the last turn. Assumes nothing.
use Rattle.pick_bounds.specs.Bounds.{good, Keeps}
use Rattle.pick_bounds.proofs.settle.Given as goal

abbrev pub invariant-loop-after : goal.invariant-loop-after
invariant-loop-after l = Keeps (good l.net l.want) l.initial.low l.low

abbrev pub decreases-loop-after : goal.decreases-loop-after
decreases-loop-after l = l.before
