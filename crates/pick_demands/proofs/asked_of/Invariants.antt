-- `asked_of`: the invariant says that what is summed is asked for, and of these ends. Assumes nothing.
use mathlib.Core.Bool.{Bool}
use Prim.Native.Nat.{ℕ}
use Rattle.pick_bounds.specs.declared.Bounds.{Bounds}
use Rattle.pick_bounds.specs.Bounds.{Part}
use Rattle.pick_demands.specs.Demands.{Asks, DemandsListed}
use Rattle.pick_demands.proofs.asked_of.Given as goal

abbrev pub invariant-loop-i : goal.invariant-loop-i
invariant-loop-i l = ((p : ℕ → Bool) (b : Bounds) → DemandsListed p b l.list → Asks p b l.all.ends l.all.least) × Part l.all.ends l.of
