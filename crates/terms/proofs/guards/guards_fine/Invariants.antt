-- `guards_fine`: a byte for each edge, one after the other. Assumes nothing.
use Prim.Native.Nat.{ℕ, ◌<◌}
use mathlib.Core.Path.{◌≡◌}
use mathlib.Core.Bool.{true}
use Rattle.terms.proofs.GuardLaws.{guard_fine}
use Rattle.terms.proofs.guards.guards_fine.Given as goal

abbrev pub invariant-loop-j : goal.invariant-loop-j
invariant-loop-j l = (k : ℕ) → k < l.j → guard_fine l.t l.g k ≡ true
