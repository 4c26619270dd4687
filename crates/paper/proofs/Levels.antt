-- Levels of any list of tests: they are nested, exactly one level is the first at which no set is left (or one is left at the last), and a search over all sets
-- finds it. Assumes nothing.
use mathlib.Core.Path.{◌≡◌, refl, subst}
use Prim.Native.Nat.{ℕ, zero, suc, ◌+◌, ◌≤◌, ◌<◌}
use native.Mathlib.Nat.{zero-add, mod-one}
use native.Mathlib.Omega.{arith}
use mathlib.Core.Bool.{Bool, true}
use mathlib.Core.Logic.{⊎_elim}
use mathlib.Core.List.{List, [], ◌∷◌}
use mathlib.Core.Option.{Option, none, some}
use lib.Dec.{leb, ltb}
use lib.ListN.{length, take}
use lib.Pow.{pow_pos}
use borrow.Author.Tests.{leb-true, leb-false, ltb-true, ltb-false}
use Rattle.paper.specs.Lists.{all}
use Rattle.paper.specs.Operations.{left, SomeLeft, NoneLeft, FirstEmpty}
use Rattle.paper.proofs.Bools.{never, and-true, and_both, true_or_false}
use Rattle.paper.proofs.Search.{look, Finds, look_first}

-- ---- nested: what is left at a level is left at every level before it, and what is left at the last is left at every level
less : (asked : List (ℕ → Bool)) (j k c : ℕ) → j ≤ k → all (λ test. test c) (take k asked) ≡ true → all (λ test. test c) (take j asked) ≡ true
less asked zero k c l h = refl
less asked (suc j) zero c l h = absurd (omega arith)
less [] (suc j) (suc k) c l h = refl
less (test ∷ asked) (suc j) (suc k) c l h =
    let r = and-true (test c) _ h in
    and_both (test c) _ r.0 (less asked j k c (omega arith) r.1)

whole : (asked : List (ℕ → Bool)) (k c : ℕ) → all (λ test. test c) (take (length asked) asked) ≡ true → all (λ test. test c) (take k asked) ≡ true
whole asked zero c h = refl
whole [] (suc k) c h = refl
whole (test ∷ asked) (suc k) c h =
    let r = and-true (test c) _ h in
    and_both (test c) _ r.0 (whole asked k c r.1)

module _ (asked : List (ℕ → Bool)) (m : ℕ) where
  pub left_less : (j k c : ℕ) → j ≤ k → left asked k c ≡ true → left asked j c ≡ true
  unfolding left
  left_less j k c l h = less asked j k c l h

  left-whole : (k c : ℕ) → left asked (length asked) c ≡ true → left asked k c ≡ true
  unfolding left
  left-whole k c h = whole asked k c h

  pub some_less : (j k : ℕ) → j ≤ k → SomeLeft asked m k → SomeLeft asked m j
  some_less j k l s = (s.0, s.1, left_less j k s.0 l s.2)

  some-whole : (k : ℕ) → SomeLeft asked m (length asked) → SomeLeft asked m k
  some-whole k s = (s.0, s.1, left-whole k s.0 s.2)

  -- at level 0 nothing is asked
  pub some-at_0 : SomeLeft asked m 0
  unfolding left
  some-at_0 = (0, pow_pos m, refl)

  pub not_both : {A : Type 0} (k : ℕ) → SomeLeft asked m k → NoneLeft asked m k → A
  not_both k s n = never (left asked k s.0) s.2 (n s.0 s.1)

  -- so the level next to one at which some is left is the first, if none is left there
  pub first_next : (k : ℕ) → SomeLeft asked m k → NoneLeft asked m (suc k) → FirstEmpty asked m (suc k)
  first_next k s n = (n, λ j l. some_less j k l s)

  -- ---- it is one
  order : (j k : ℕ) → FirstEmpty asked m (suc j) → FirstEmpty asked m (suc k) → j < k → ⊥
  order j k f g l = not_both (suc j) (g.1 (suc j) (omega arith)) f.0

  pub first_one : (r s : ℕ) → FirstEmpty asked m r → FirstEmpty asked m s → r ≡ s
  first_one zero zero f g = refl
  first_one zero (suc k) f g = not_both (suc k) (some-whole (suc k) f) g.0
  first_one (suc j) zero f g = not_both (suc j) (some-whole (suc j) g) f.0
  first_one (suc j) (suc k) f g =
      ⊎_elim (λ e. absurd (order j k f g (ltb-true j k e)))
      (λ e. ⊎_elim (λ q. absurd (order k j g f (ltb-true k j q))) (λ q. omega (arith, ltb-false j k e, ltb-false k j q)) (true_or_false (ltb k j)))
      (true_or_false (ltb j k))

  -- and no more than there are levels
  pub first_fits : (r : ℕ) → FirstEmpty asked m r → r ≤ length asked
  first_fits zero f = omega arith
  first_fits (suc k) f =
      ⊎_elim (λ e. not_both (suc k) (some-whole (suc k) (f.1 (length asked) (leb-true (length asked) k e))) f.0) (λ e. omega (arith, leb-false (length asked) k e))
      (true_or_false (leb (length asked) k))

  -- ---- there is one: levels are tried in turn, k of them had some left, f are to come
  unfoldable pub climb : ℕ → ℕ → ℕ
  climb zero k = 0
  climb (suc f) k = elim (look (left asked (suc k)) m 0 0) [ none ↦ suc k | some c ↦ climb f (suc k) ]

  unfoldable pub first_empty : ℕ
  first_empty = climb (length asked) 0

  climb_first : (f k : ℕ) → k + f ≡ length asked → SomeLeft asked m k → FirstEmpty asked m (climb f k)
  unfolding climb
  climb_first zero k e s = subst (SomeLeft asked m) (omega arith) s
  climb_first (suc f) k e s = by (look (left asked (suc k)) m 0 0) (look_first (left asked (suc k)) m) (climb_first f (suc k) (omega arith))
    where
      by : (o : Option ℕ) → Finds (left asked (suc k)) m 0 0 o → (SomeLeft asked m (suc k) → FirstEmpty asked m (climb f (suc k)))
          → FirstEmpty asked m (elim o [ none ↦ suc k | some c ↦ climb f (suc k) ])
      by none n go = first_next k s (λ x l. n x (rw (zero-add m) l) (mod-one x))
      by (some c) h go = go (c, rw (← zero-add m) h.is_set, h.passes)

  pub first-there : FirstEmpty asked m first_empty
  unfolding first_empty
  first-there = climb_first (length asked) 0 (zero-add (length asked)) some-at_0
