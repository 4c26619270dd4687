-- A search is dead if an open edge has no offer that goes on, and if it is dead with fewer open edges. Assumes nothing.
use mathlib.Core.Path.{◌≡◌, sym, ap, ◌∙◌, subst}
use Prim.Native.Nat.{ℕ, ◌+◌, ◌≤◌, ◌<◌, ◌^◌}
use mathlib.Core.Bool.{Bool, true, false, ◌||◌, false≢true}
use mathlib.Core.List.{List}
use native.Mathlib.Decide.{dec_lt}
use native.Mathlib.Omega.{arith}
use lib.ListN.{get_or}
use lib.Bits.{bit_or}
use borrow.Author.Tests.{eq-eqb}
use Rattle.paper.specs.Lists.{has}
use Rattle.paper.proofs.Bools.{or-false}
use Rattle.paper.proofs.Bits.{has_or, has_pow}
use Rattle.offers_ahead.specs.Dead.{Open, Dead}

-- with more edges served, an open edge is open without
wider : (from to served x k : ℕ) → Open from to (bit_or served x) k → Open from to served k × (has x k ≡ false)
wider from to served x k o =
    let r = or-false (has served k) (has x k) (sym (has_or served x k) ∙ o.unserved) in
    (record { low = o.low; high = o.high; unserved = r.0 }, r.1)

module _ (rivals edges : List ℕ) (count from to : ℕ) where
  -- after offer i is taken, edge k with it
  abbrev pub After : ℕ → ℕ → ℕ → Type 0
  After served blocked i = Dead rivals edges count from to served (bit_or blocked (get_or rivals i 0))

  -- every offer on an open edge is blocked, or dead once taken
  dead_edge : (served blocked k : ℕ) → Open from to served k
      → ((i : ℕ) → i < count → has (get_or edges k 0) i ≡ true → has blocked i ≡ false → After (bit_or served (2 ^ k)) blocked i)
      → Dead rivals edges count from to served blocked
  unfolding Dead
  dead_edge served blocked k o h = λ y f g.
      let z = f k o in
      let w = wider from to served (2 ^ k) in
      h (y k) z.small z.on_edge z.free y
      (λ j p.
      let v = f j (w j p).0 in
      let ne : k ≡ j → ⊥ = λ e. false≢true (sym (w j p).1 ∙ has_pow k j ∙ eq-eqb j k (sym e)) in
      record {
        small = v.small;
        on_edge = v.on_edge;
        free = has_or blocked (get_or rivals (y k) 0) (y j) ∙ ap (λ (b : Bool). b || has (get_or rivals (y k) 0) (y j)) v.free ∙ g k j o (w j p).0 ne;
      })
      (λ j l p r. g j l (w j p).0 (w l r).0)

  -- one offer more is tried
  pub tried : (u blocked s i : ℕ) → ((j : ℕ) → j < i → has s j ≡ true → has blocked j ≡ false → After u blocked j)
      → (has s i ≡ true → has blocked i ≡ false → After u blocked i)
      → (j : ℕ) → j < i + 1 → has s j ≡ true → has blocked j ≡ false → After u blocked j
  tried u blocked s i old new j l = elim (dec_lt j i) [
    | yes r ↦ old j r
    | no r ↦ let e : i ≡ j = omega arith in subst (λ z. has s z ≡ true → has blocked z ≡ false → After u blocked z) e new
  ]

  -- every offer on an open edge is tried
  pub tried_all : (served b blocked k i : ℕ) → Open from to served k → b ≡ 2 ^ k → count ≤ i
      → ((j : ℕ) → j < i → has (get_or edges k 0) j ≡ true → has blocked j ≡ false → After (bit_or served b) blocked j)
      → Dead rivals edges count from to served blocked
  tried_all served b blocked k i o e l h =
      dead_edge served blocked k o (λ j m p r. subst (λ z. After (bit_or served z) blocked j) e (h j (omega arith) p r))

  -- edges left out: fewer to serve
  pub dead_drop : (served x blocked : ℕ) → Dead rivals edges count from to (bit_or served x) blocked → Dead rivals edges count from to served blocked
  unfolding Dead
  dead_drop served x blocked h = λ y f g.
      let w = wider from to served x in
      h y (λ k o. f k (w k o).0) (λ j k o p. g j k (w j o).0 (w k p).0)
