-- Laws of slices that change one entry after the other. Assumes nothing.
use mathlib.Core.Path.{◌≡◌, refl}
use Prim.Native.Nat.{ℕ, ◌+◌, ◌<◌}
use native.Mathlib.Omega.{arith}
use mathlib.Core.Bool.{Bool, true, false}
use mathlib.Core.List.{List}
use lib.Dec.{eqb}
use lib.ListN.{length, set}
use lib.Seq.{get_or-set_same, get_or-set_other}
use borrow.Author.Tests.{eqb-true, eqb-false}
use Rattle.paper.specs.Lists.{at}

-- one entry more of a slice that is filled from the front
pub set_more : (P : ℕ → ℕ → Type 0) (xs : List ℕ) (i x : ℕ) → i < length xs → ((k : ℕ) → k < i → P k (at xs k)) → P i x → (k : ℕ) → k < i + 1 → P k (at (set xs i x) k)
set_more P xs i x l h p k n = by (eqb k i) refl
  where
    by : (c : Bool) → eqb k i ≡ c → P k (at (set xs i x) k)
    by true e = rw (eqb-true k i e, get_or-set_same xs i x 0 l) p
    by false e = let d : k ≡ i → ⊥ = eqb-false k i e in rw (get_or-set_other xs i k x 0 d) (h k (omega arith))
