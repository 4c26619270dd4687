-- `is_overdrawn`: the invariant says that a set that passes has no more than what is summed of the ends so far. Assumes nothing.
use Rattle.pick_bounds.specs.declared.Wanted.{Wanted}
use Rattle.pick_bounds.specs.Bounds.{good}
use Rattle.pick_demands.specs.Demands.{Caps, DemandsListed}
use Rattle.pick_demands.proofs.is_overdrawn.Given as goal

abbrev pub invariant-loop-i : goal.invariant-loop-i
invariant-loop-i l = (want : Wanted) → DemandsListed (good l.net want) l.b l.list → Caps (good l.net want) l.b l.all.ends l.all.most
