-- `list_direct`: the invariant says that what is listed is asked for. Assumes nothing.
use Prim.Native.Nat.{◌≤◌}
use lib.ListN.{length, take}
use Rattle.pick_bounds.specs.Bounds.{good}
use Rattle.pick_demands.specs.Demands.{DemandsListed}
use Rattle.pick_demands.proofs.list_direct.Given as goal

abbrev pub invariant-loop-i : goal.invariant-loop-i
invariant-loop-i l = (l.count ≤ length l.list) × DemandsListed (good l.net l.want) l.b (take l.count l.list)
