-- A slice filled from the front, one entry after the other. Assumes nothing.
use mathlib.Core.Path.{◌≡◌, refl, ◌∙◌}
use Prim.Native.Nat.{ℕ, ◌+◌, ◌<◌}
use native.Mathlib.Omega.{arith}
use mathlib.Core.List.{List}
use lib.ListN.{length, set, length-set}
use lib.Seq.{get_or-set_other}
use borrow.Author.Count.{below_more}
use Rattle.paper.specs.Lists.{at}
use Rattle.marking_held.proofs.HoldingLaws.{set_more}
use Rattle.marking_held.specs.Filling.{Filled}

pub filled_none : (f : ℕ → ℕ) (old : List ℕ) → Filled f old old 0
filled_none f old = record { done = λ k l. absurd (omega arith); rest = λ k l. refl; long = refl }

module _ {f : ℕ → ℕ} {old new : List ℕ} {i : ℕ} (h : Filled f old new i) where
  -- the next entry is stored
  pub filled_set : (v : ℕ) → i < length new → v ≡ f i → Filled f old (set new i v) (i + 1)
  filled_set v l e = record {
    done = set_more (λ k x. x ≡ f k) new i v l h.done e;
    rest = λ k n. let d : k ≡ i → ⊥ = λ q. omega arith in get_or-set_other new i k v 0 d ∙ h.rest k (omega arith);
    long = length-set new i v ∙ h.long;
  }

  -- or is right as it stands
  pub filled_skip : at old i ≡ f i → Filled f old new (i + 1)
  filled_skip e = record {
    done = below_more (λ k. at new k ≡ f k) i h.done (h.rest i (omega arith) ∙ e);
    rest = λ k n. h.rest k (omega arith);
    long = h.long;
  }

  -- the same said in other words
  pub filled_as : (g : ℕ → ℕ) → ((k : ℕ) → k < i → f k ≡ g k) → Filled g old new i
  filled_as g e = record { done = λ k l. h.done k l ∙ e k l; rest = h.rest; long = h.long }
