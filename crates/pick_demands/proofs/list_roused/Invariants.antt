-- `list_roused`: the invariant says that what is listed is asked for, if it was before. Assumes nothing.
use Prim.Native.Nat.{◌≤◌}
use lib.ListN.{length, take}
use Rattle.pick_bounds.specs.declared.Wanted.{Wanted}
use Rattle.pick_bounds.specs.Bounds.{good}
use Rattle.pick_demands.specs.Demands.{DemandsListed}
use Rattle.pick_demands.proofs.list_roused.Given as goal

abbrev pub invariant-loop-i : goal.invariant-loop-i
invariant-loop-i l = (l.count ≤ length l.list) × ((want : Wanted) → DemandsListed (good l.net want) l.b (take l.from l.initial.list) → DemandsListed (good l.net want) l.b (take l.count l.list))
