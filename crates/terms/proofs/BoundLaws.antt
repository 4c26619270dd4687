-- Row 18, from the fields of a list one by one, and the entry of an edge. Assumes nothing.
use Prim.Native.Nat.{ℕ, ◌+◌, ◌*◌, ◌-◌, ◌≤◌, ◌<◌}
use mathlib.Core.Path.{◌≡◌, ap, ◌∙◌}
use mathlib.Core.Bool.{Bool, true, false, ◌&&◌}
use mathlib.Core.List.{List}
use native.Mathlib.Omega.{arith}
use native.Mathlib.Decide.{dec_lt}
use lib.Dec.{ltb, eqb}
use lib.ListN.{length}
use borrow.Author.Tests.{eqb-true, eq-eqb, ne_eqb, le-leb, lt-leb, lt-ltb, le-ltb}
use Rattle.paper.specs.Lists.{at}
use Rattle.paper.specs.Bytes.{framed, word_at}
use Rattle.paper.specs.Table.{edges, edge_kind}
use Rattle.paper.specs.Offers.{bounds_version, bounds_count, bound_at, bound_edge, low, high, bound_fine, bounds_fine}
use Rattle.paper.proofs.Bools.{and-true, and_never}
use Rattle.paper.proofs.Lists.{below_all, all_fails}
use Rattle.paper.proofs.BoundsLists.{GoodBounds, bounds_rise}
use Rattle.terms.specs.Terms.{Entries}

-- ---- the frame
abbrev frame : List ℕ → Bool
frame x = framed x && eqb (bounds_version x) 1 && eqb (length x) (bound_at x (bounds_count x))

module _ (x : List ℕ) where
  pub frame_short : length x < 4 → frame x ≡ false
  frame_short l = ap (λ (b : Bool). framed x && eqb (bounds_version x) 1 && b) (ne_eqb (length x) (bound_at x (bounds_count x)) (λ e. omega (arith, e, l))) ∙ and_never (framed x && eqb (bounds_version x) 1)

  pub frame_length : (at x 0 * 256 + at x 1 + 2 ≡ length x → ⊥) → frame x ≡ false
  frame_length n = rw (ne_eqb (at x 0 * 256 + at x 1 + 2) (length x) n)

  module _ (e : at x 0 * 256 + at x 1 + 2 ≡ length x) where
    pub frame_version : (at x 2 ≡ 1 → ⊥) → frame x ≡ false
    unfolding bounds_version
    frame_version n = rw (eq-eqb (at x 0 * 256 + at x 1 + 2) (length x) e, ne_eqb (at x 2) 1 n)

    pub frame_count : at x 2 ≡ 1 → frame x ≡ eqb (length x) (4 + 9 * at x 3)
    unfolding bounds_version bounds_count
    frame_count v = rw (eq-eqb (at x 0 * 256 + at x 1 + 2) (length x) e, v)

  pub frame_long : frame x ≡ true → length x ≡ 4 + 9 * bounds_count x
  frame_long h = eqb-true _ _ (and-true (framed x && eqb (bounds_version x) 1) _ h).1

-- ---- an entry
module _ (t x : List ℕ) (k : ℕ) where
  pub edge-over : edges t ≤ bound_edge x k → bound_fine x t k ≡ false
  unfolding bound_fine
  edge-over l = rw (le-ltb (bound_edge x k) (edges t) l)

  module _ (fits : bound_edge x k < edges t) where
    pub edge-control : (edge_kind t (bound_edge x k) ≡ 1 → ⊥) → bound_fine x t k ≡ false
    unfolding bound_fine
    edge-control n = rw (lt-ltb (bound_edge x k) (edges t) fits, ne_eqb (edge_kind t (bound_edge x k)) 1 n)

    module _ (object : edge_kind t (bound_edge x k) ≡ 1) where
      pub low-above : high x k < low x k → bound_fine x t k ≡ false
      unfolding bound_fine
      low-above l = rw (lt-ltb (bound_edge x k) (edges t) fits, object, lt-leb (low x k) (high x k) l)

      module _ (ordered : low x k ≤ high x k) where
        pub first_entry : k ≡ 0 → bound_fine x t k ≡ true
        unfolding bound_fine
        first_entry z = rw (lt-ltb (bound_edge x k) (edges t) fits, object, le-leb (low x k) (high x k) ordered, eq-eqb k 0 z)

        pub later_entry : (k ≡ 0 → ⊥) → bound_fine x t k ≡ ltb (bound_edge x (k - 1)) (bound_edge x k)
        unfolding bound_fine
        later_entry n = rw (lt-ltb (bound_edge x k) (edges t) fits, object, le-leb (low x k) (high x k) ordered, ne_eqb k 0 n)

-- ---- the list
module _ (t x : List ℕ) where
  pub bounds_unframed : frame x ≡ false → bounds_fine t x ≡ false
  unfolding bounds_fine
  bounds_unframed h = rw h

  module _ (h : frame x ≡ true) where
    pub bounds-fail : (k : ℕ) → k < bounds_count x → bound_fine x t k ≡ false → bounds_fine t x ≡ false
    unfolding bounds_fine
    bounds-fail k l f = rw h (all_fails (bound_fine x t) (bounds_count x) k l f)

    pub bounds_pass : ((k : ℕ) → k < bounds_count x → bound_fine x t k ≡ true) → bounds_fine t x ≡ true
    unfolding bounds_fine
    bounds_pass f = rw h (below_all (bound_fine x t) (bounds_count x) f)

-- ---- the entry of an edge
module _ {t x : List ℕ} (f : GoodBounds t x) (e n : ℕ) (h : Entries x n) where
  all_entries : n ≡ bounds_count x
  all_entries = h.counted (omega (arith, f.is-long))

  pub found_here : (k : ℕ) → k < n → bound_edge x k ≡ e → (k < bounds_count x) × (bound_edge x k ≡ e)
  found_here k l p = (omega (arith, l, all_entries), p)

  -- all are below e
  pub found_none : ((j : ℕ) → j < n → bound_edge x j < e) → (k : ℕ) → k < bounds_count x → bound_edge x k ≡ e → ⊥
  found_none b k l p = omega (arith, b k (omega (arith, l, all_entries)), p)

  -- one is above e, and so are those behind it
  pub found_passed : (k : ℕ) → k < n → ((j : ℕ) → j < k → bound_edge x j < e) → e < bound_edge x k → (i : ℕ) → i < bounds_count x → bound_edge x i ≡ e → ⊥
  found_passed k m b a i l p = elim (dec_lt i k) [
    | yes u ↦ omega (arith, b i u, p)
    | no u ↦ elim (dec_lt k i) [
      | yes v ↦ omega (arith, bounds_rise f k i v l, a, p)
      | no v ↦ let z : i ≡ k = omega arith in omega (arith, a, p, ap (bound_edge x) z)
    ]
  ]

-- ---- fields, as they are read
module _ (x : List ℕ) where
  pub count-read : (n : ℕ) → n ≡ at x 3 → n ≡ bounds_count x
  unfolding bounds_count
  count-read n e = e

  pub too_short : (n : ℕ) → n ≡ at x 3 → length x < 4 + 9 * n → 4 + 9 * bounds_count x ≤ length x → ⊥
  unfolding bounds_count
  too_short n e l h = omega (arith, e, l, h)

  module _ (k v : ℕ) where
    pub edge-read : v ≡ at x (4 + 9 * k) → v ≡ bound_edge x k
    unfolding bound_edge
    edge-read e = e

    pub edge-before : (k ≡ 0 → ⊥) → v ≡ at x (4 + 9 * k - 9) → v ≡ bound_edge x (k - 1)
    unfolding bound_edge
    edge-before n e = let z : 4 + 9 * k - 9 ≡ 4 + 9 * (k - 1) = omega (arith, n) in e ∙ ap (at x) z

    pub low_read : v ≡ word_at x (4 + 9 * k + 1) → v ≡ low x k
    unfolding low
    low_read e = e

    pub high_read : v ≡ word_at x (4 + 9 * k + 5) → v ≡ high x k
    unfolding high
    high_read e = e
