-- Rows 7 and 18 one after the other, and the gate of an edge from its guard and its entry. Assumes nothing.
use Prim.Native.Nat.{ℕ, ◌≤◌, ◌<◌}
use mathlib.Core.Path.{◌≡◌, refl, sym, ap, ◌∙◌, subst}
use mathlib.Core.Bool.{Bool, true, false, ◌&&◌}
use mathlib.Core.List.{List}
use mathlib.Core.Option.{Option, none, some}
use native.Mathlib.Omega.{arith}
use borrow.Author.Tests.{eq-eqb, ne_eqb}
use lib.ListN.{length}
use Rattle.paper.specs.Lists.{at, within}
use Rattle.paper.specs.Answers.{refused, good}
use Rattle.paper.specs.Offers.{guards_fine, bounds_fine, bounds_count, bound_edge, low, high, in_bounds, goes_over}
use Rattle.paper.proofs.Ladders.{need-good, need-passed}
use Rattle.paper.proofs.BoundsLists.{GoodBounds, bounds-good, listed-bounds, unlisted_bounds}
use Rattle.offers_over.specs.Over.{admitted}
use Rattle.offers_over.specs.declared.Gate.TheVariants.{Within}
use Rattle.terms.specs.Terms.{terms_fine, Ties}

-- ---- the two rows
module _ (t g x : List ℕ) where
  pub terms_7 : guards_fine t g ≡ false → terms_fine t g x ≡ refused 7 0
  unfolding terms_fine
  terms_7 h = rw h

  pub terms_18 : guards_fine t g ≡ true → bounds_fine t x ≡ false → terms_fine t g x ≡ refused 18 0
  unfolding terms_fine
  terms_18 h k = rw (h, k)

  pub terms_pass : guards_fine t g ≡ true → bounds_fine t x ≡ true → terms_fine t g x ≡ good tt
  unfolding terms_fine
  terms_pass h k = rw (h, k)

  pub terms-fine : terms_fine t g x ≡ good tt → (guards_fine t g ≡ true) × (bounds_fine t x ≡ true)
  unfolding terms_fine
  terms-fine h = let r = need-good 7 (guards_fine t g) _ tt h in (r.0, need-passed 18 (bounds_fine t x) (sym r.1))

-- ---- the gate of an edge
module _ {t g x : List ℕ} {goes : ℕ → Option ℕ → Bool} (y : Ties t g x goes) (e : ℕ) where
  fine : GoodBounds t x
  fine = bounds-good t x y.fine

  -- an edge that its guard closes
  pub closed_gate : (at g e ≡ 1 → ⊥) → (v : Option ℕ) → goes e v ≡ false
  unfolding goes_over
  closed_gate n v = y.goes-are e v ∙ ap (λ (b : Bool). b && in_bounds x e v) (ne_eqb (at g e) 1 n)

  module _ (o : at g e ≡ 1) where
    by_bounds : (v : Option ℕ) → goes e v ≡ in_bounds x e v
    unfolding goes_over
    by_bounds v = y.goes-are e v ∙ ap (λ (b : Bool). b && in_bounds x e v) (eq-eqb (at g e) 1 o)

    -- an edge that isn't listed
    pub unlisted_gate : ((k : ℕ) → k < bounds_count x → bound_edge x k ≡ e → ⊥) → (v : Option ℕ) → goes e v ≡ true
    unlisted_gate h v = by_bounds v ∙ unlisted_bounds x e h v

    -- nor is any edge in a list that is too short for an entry
    pub short_gate : length x < 13 → (v : Option ℕ) → goes e v ≡ true
    short_gate l = unlisted_gate (λ k m z. omega (arith, m, l, fine.is-long))

    pub listed_gate : (k : ℕ) → (k < bounds_count x) × (bound_edge x k ≡ e) → (a b : ℕ) → a ≡ low x k → b ≡ high x k
        → (v : Option ℕ) → goes e v ≡ admitted (Within a b) v
    unfolding in_bounds
    listed_gate k h a b p r none = by_bounds none
    listed_gate k h a b p r (some v) =
        let s : in_bounds x e (some v) ≡ within (low x k) (high x k) v = subst (λ (j : ℕ). in_bounds x j (some v) ≡ within (low x k) (high x k) v) h.1 (listed-bounds fine k h.0 v) in
        by_bounds (some v) ∙ s ∙ rw (p, r)
