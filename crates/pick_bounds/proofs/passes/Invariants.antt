-- `passes`: the invariant says that the set obeys the rules before i. Assumes nothing.
use mathlib.Core.Path.{◌≡◌}
use mathlib.Core.Bool.{true}
use Prim.Native.Nat.{ℕ, ◌<◌}
use Rattle.pick_bounds.specs.Net.{obeys, rule_at}
use Rattle.pick_bounds.proofs.passes.Given as goal

abbrev pub invariant-loop-i : goal.invariant-loop-i
invariant-loop-i l = (j : ℕ) → j < l.i → obeys 32 (rule_at l.net j) l.c ≡ true
