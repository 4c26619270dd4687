-- Bounds lists (wish 1): what a good one says, entry by entry; each edge is listed once; control edges are bound by nothing; one list has count 0.
-- Assumes nothing.
use mathlib.Core.Path.{◌≡◌, refl, sym, ap, ◌∙◌, subst}
use Prim.Native.Nat.{ℕ, zero, suc, ◌+◌, ◌*◌, ◌-◌, ◌≤◌, ◌<◌}
use native.Mathlib.Omega.{arith}
use native.Mathlib.Decide.{dec_lt}
use mathlib.Core.Bool.{Bool, true, false, not, ◌&&◌, ◌||◌}
use mathlib.Core.List.{List, [], ◌∷◌}
use mathlib.Core.Option.{Option, none, some}
use lib.Dec.{leb, ltb, eqb}
use lib.ListN.{length}
use borrow.Author.Tests.{eqb-true, eq-eqb, ne_eqb, leb-true, ltb-true, not-true}
use Rattle.paper.specs.Lists.{at, within, ◌⇒◌}
use Rattle.paper.specs.Bytes.{framed}
use Rattle.paper.specs.Table.{edges, is_object, is_control}
use Rattle.paper.specs.Offers.{bounds_version, bounds_count, bound_at, bound_edge, low, high, bound_fine, bounds_fine, in_bounds, no_bounds, terms, goes_over}
use Rattle.paper.proofs.Bools.{never, and-true, if_true, iff}
use Rattle.paper.proofs.Lists.{all-below, below_all}

-- ---- what a good list says
pub record Bound (t x : List ℕ) (k : ℕ) : Type 0 where
  pub edge-fits : bound_edge x k < edges t
  pub object : is_object t (bound_edge x k) ≡ true
  pub ordered : low x k ≤ high x k
  pub above : 0 < k → bound_edge x (k - 1) < bound_edge x k

pub record GoodBounds (t x : List ℕ) : Type 0 where
  pub is_framed : framed x ≡ true
  pub is-version : bounds_version x ≡ 1
  pub is-long : length x ≡ bound_at x (bounds_count x)
  pub bound : (k : ℕ) → k < bounds_count x → Bound t x k

module _ (t x : List ℕ) where
  bound_good : (k : ℕ) → bound_fine x t k ≡ true → Bound t x k
  unfolding bound_fine
  bound_good k h =
      let r = and-true (ltb (bound_edge x k) (edges t) && is_object t (bound_edge x k) && leb (low x k) (high x k)) _ h in
      let q = and-true (ltb (bound_edge x k) (edges t) && is_object t (bound_edge x k)) _ r.0 in
      let p = and-true (ltb (bound_edge x k) (edges t)) _ q.0 in
      record {
        edge-fits = ltb-true _ _ p.0;
        object = p.1;
        ordered = leb-true _ _ q.1;
        above = λ l. ltb-true _ _ (subst (λ (c : Bool). c || ltb (bound_edge x (k - 1)) (bound_edge x k) ≡ true) (ne_eqb k 0 (λ z. omega (arith, z, l))) r.1);
      }

  pub bounds-good : bounds_fine t x ≡ true → GoodBounds t x
  unfolding bounds_fine
  bounds-good h =
      let r = and-true (framed x && eqb (bounds_version x) 1 && eqb (length x) (bound_at x (bounds_count x))) _ h in
      let q = and-true (framed x && eqb (bounds_version x) 1) _ r.0 in
      let p = and-true (framed x) _ q.0 in
      record {
        is_framed = p.0;
        is-version = eqb-true _ 1 p.1;
        is-long = eqb-true _ _ q.1;
        bound = λ k l. bound_good k (all-below (bound_fine x t) (bounds_count x) r.1 k l);
      }

-- ---- an edge's bounds
-- "edges rising": each edge is listed once
module _ {t x : List ℕ} (f : GoodBounds t x) where
  pub bounds_rise : (i j : ℕ) → i < j → j < bounds_count x → bound_edge x i < bound_edge x j
  bounds_rise i zero l m = absurd (omega arith)
  bounds_rise i (suc j) l m =
      let q : suc j - 1 ≡ j = omega arith in
      let s : bound_edge x j < bound_edge x (suc j) = subst (λ (z : ℕ). bound_edge x z < bound_edge x (suc j)) q ((f.bound (suc j) m).above (omega arith)) in
      elim (dec_lt i j) [
        | yes d ↦ omega (arith, s, bounds_rise i j d (omega (arith, m)))
        | no d ↦ let e : i ≡ j = omega arith in subst (λ (z : ℕ). bound_edge x z < bound_edge x (suc j)) (sym e) s
      ]

  once : (i j : ℕ) → i < bounds_count x → j < bounds_count x → bound_edge x i ≡ bound_edge x j → i ≡ j
  once i j li lj e =
      elim (dec_lt i j) [
        | yes d ↦ absurd (omega (arith, bounds_rise i j d lj, e))
        | no d ↦ elim (dec_lt j i) [ yes c ↦ absurd (omega (arith, bounds_rise j i c li, e)) | no c ↦ omega arith ]
      ]

  -- a value on a listed edge
  pub listed-bounds : (k : ℕ) → k < bounds_count x → (v : ℕ) → in_bounds x (bound_edge x k) (some v) ≡ within (low x k) (high x k) v
  unfolding in_bounds
  listed-bounds k l v = iff _ _
      (λ h. if_true (eqb (bound_edge x k) (bound_edge x k)) (within (low x k) (high x k) v) (all-below (λ j. eqb (bound_edge x j) (bound_edge x k) ⇒ within (low x j) (high x j) v) (bounds_count x) h k l) (eq-eqb (bound_edge x k) (bound_edge x k) refl))
      (λ h. below_all (λ j. eqb (bound_edge x j) (bound_edge x k) ⇒ within (low x j) (high x j) v) (bounds_count x) (λ j m. by j m (eqb (bound_edge x j) (bound_edge x k)) refl h))
    where
      by : (j : ℕ) → j < bounds_count x → (c : Bool) → eqb (bound_edge x j) (bound_edge x k) ≡ c → within (low x k) (high x k) v ≡ true → c ⇒ within (low x j) (high x j) v ≡ true
      by j m true e h = subst (λ (z : ℕ). within (low x z) (high x z) v ≡ true) (sym (once j k m l (eqb-true _ _ e))) h
      by j m false e h = refl

-- an edge that isn't listed is bound by nothing
pub unlisted_bounds : (x : List ℕ) (e : ℕ) → ((k : ℕ) → k < bounds_count x → bound_edge x k ≡ e → ⊥) → (v : Option ℕ) → in_bounds x e v ≡ true
unfolding in_bounds
unlisted_bounds x e h none = refl
unlisted_bounds x e h (some v) =
    below_all (λ j. eqb (bound_edge x j) e ⇒ within (low x j) (high x j) v) (bounds_count x)
    (λ j m. ap (λ (c : Bool). c ⇒ within (low x j) (high x j) v) (ne_eqb (bound_edge x j) e (h j m)))

-- "Control edges may not be listed.": on them bounds bar nothing, whatever the value
pub control-bounds : (t g x : List ℕ) → bounds_fine t x ≡ true → (e : ℕ) → is_control t e ≡ true → (v : Option ℕ) → goes_over (terms g x) e v ≡ eqb (at g e) 1
unfolding goes_over
control-bounds t g x h e c v =
    ap (λ (b : Bool). eqb (at g e) 1 && b)
    (unlisted_bounds x e
    (λ k l z. never (is_object t e) (subst (λ (j : ℕ). is_object t j ≡ true) z ((bounds-good t x h).bound k l).object) (not-true _ c)) v)
    ∙ mathlib.Core.Bool.and-true (eqb (at g e) 1)

-- ---- "count 0"
pub no_bounds-fine : (t : List ℕ) → bounds_fine t no_bounds ≡ true
unfolding bounds_fine bounds_version bounds_count
no_bounds-fine t = refl

four-long : (x : List ℕ) → length x ≡ 4 → x ≡ at x 0 ∷ at x 1 ∷ at x 2 ∷ at x 3 ∷ []
four-long [] h = absurd (omega (arith, h))
four-long (a ∷ []) h = absurd (omega (arith, h))
four-long (a ∷ (b ∷ [])) h = absurd (omega (arith, h))
four-long (a ∷ (b ∷ (c ∷ []))) h = absurd (omega (arith, h))
four-long (a ∷ (b ∷ (c ∷ (d ∷ [])))) h = refl
four-long (a ∷ (b ∷ (c ∷ (d ∷ (e ∷ xs))))) h = absurd (omega (arith, h))

-- of all good lists one has count 0
pub one_empty_list : (t x : List ℕ) → bounds_fine t x ≡ true → bounds_count x ≡ 0 → x ≡ no_bounds
unfolding bounds_version bounds_count
one_empty_list t x h z =
    let f = bounds-good t x h in
    let l : length x ≡ 4 = omega (arith, f.is-long, z) in
    let n : at x 0 * 256 + at x 1 + 2 ≡ length x = eqb-true _ _ f.is_framed in
    let a : at x 0 ≡ 0 = omega (arith, n, l) in
    let b : at x 1 ≡ 2 = omega (arith, n, l, a) in
    let e = four-long x l in
    e ∙ rw (a, b, f.is-version, z)
