-- `huddle`: the invariant says that the ends so far are a group; the ends in common become fewer. Assumes nothing.
use Rattle.pick_bounds.specs.declared.Wanted.{Wanted}
use Rattle.pick_bounds.specs.Bounds.{good}
use Rattle.pick_demands.specs.Demands.{Huddled}
use Rattle.pick_demands.proofs.huddle.Given as goal

abbrev pub invariant-loop-h : goal.invariant-loop-h
invariant-loop-h l = (want : Wanted) → Huddled (good l.net want) l.h

abbrev pub decreases-loop-h : goal.decreases-loop-h
decreases-loop-h l = l.h.common
