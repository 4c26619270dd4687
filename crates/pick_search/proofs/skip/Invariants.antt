-- `skip`: the invariant says that the same is found from where it is. Assumes nothing.
use mathlib.Core.Bool.{Bool}
use Prim.Native.Nat.{ℕ}
use Rattle.pick_search.specs.Searching.{AtPlace, Skipped}
use Rattle.pick_search.proofs.skip.Given as goal

abbrev pub invariant-loop-i : goal.invariant-loop-i
invariant-loop-i l = AtPlace l.m l.i l.place × ((w : ℕ → Bool) → Skipped w l.m l.left l.initial.place l.b (record { left = l.i; place = l.place }))
