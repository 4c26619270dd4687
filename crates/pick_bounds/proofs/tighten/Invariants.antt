-- `tighten`: the invariant says that what is wanted and the rules before i kept every set that passes. Assumes nothing.
use Rattle.pick_bounds.specs.Bounds.{good, Keeps}
use Rattle.pick_bounds.proofs.tighten.Given as goal

abbrev pub invariant-loop-i : goal.invariant-loop-i
invariant-loop-i l = Keeps (good l.net l.want) l.initial.low l.low
