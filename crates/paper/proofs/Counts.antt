-- Laws of any, all and count: over lists one after another, over what was kept, and over the numbers below n. Assumes nothing.
use mathlib.Core.Path.{◌≡◌, refl, sym, ap, ◌∙◌}
use Prim.Native.Nat.{ℕ, zero, suc, ◌+◌, ◌≤◌, ◌<◌}
use native.Mathlib.Omega.{arith}
use native.Mathlib.Nat.{zero-add}
use mathlib.Core.Bool.{Bool, true, false, not, ◌&&◌, ◌||◌, cond, and-false}
use mathlib.Core.Logic.{⊎_elim}
use mathlib.Core.List.{List, [], ◌∷◌, ◌++◌}
use lib.Dec.{eqb}
use lib.ListN.{length}
use borrow.Author.Tests.{eqb-true, eqb-false, eq-eqb, ne_eqb}
use Rattle.paper.specs.Lists.{below, all, any, keep, gather, count, one_if}
use Rattle.paper.proofs.Bools.{and_both, or_left, or_right, true_or_false}
use Rattle.paper.proofs.Lists.{below_suc}

module _ {A : Type 0} (p : A → Bool) where
  pub any_append : (xs ys : List A) → any p (xs ++ ys) ≡ any p xs || any p ys
  any_append [] ys = refl
  any_append (x ∷ xs) ys = by (p x) (any_append xs ys)
    where
      by : (b : Bool) → any p (xs ++ ys) ≡ any p xs || any p ys → b || any p (xs ++ ys) ≡ b || any p xs || any p ys
      by true e = refl
      by false e = e

  pub all_append : (xs ys : List A) → all p (xs ++ ys) ≡ all p xs && all p ys
  all_append [] ys = refl
  all_append (x ∷ xs) ys = by (p x) (all_append xs ys)
    where
      by : (b : Bool) → all p (xs ++ ys) ≡ all p xs && all p ys → b && all p (xs ++ ys) ≡ b && all p xs && all p ys
      by true e = e
      by false e = refl

  pub count_append : (xs ys : List A) → count p (xs ++ ys) ≡ count p xs + count p ys
  count_append [] ys = rw zero-add
  count_append (x ∷ xs) ys = by (p x) (count_append xs ys)
    where
      by : (b : Bool) → count p (xs ++ ys) ≡ count p xs + count p ys
          → cond b (suc (count p (xs ++ ys))) (count p (xs ++ ys)) ≡ cond b (suc (count p xs)) (count p xs) + count p ys
      by true e = omega arith
      by false e = e

  -- all pass, by the number that doesn't
  pub all-count : (xs : List A) → all p xs ≡ eqb (count (λ x. not (p x)) xs) 0
  all-count [] = refl
  all-count (x ∷ xs) = by (p x) (all-count xs)
    where
      by : (b : Bool) → all p xs ≡ eqb (count (λ x. not (p x)) xs) 0
          → b && all p xs ≡ eqb (cond (not b) (suc (count (λ x. not (p x)) xs)) (count (λ x. not (p x)) xs)) 0
      by true e = e
      by false e = sym (ne_eqb (suc (count (λ x. not (p x)) xs)) 0 (λ q. omega arith))

  -- those that pass and those that don't are all
  pub length-count : (xs : List A) → length xs ≡ count (λ x. not (p x)) xs + count p xs
  length-count [] = refl
  length-count (x ∷ xs) = by (p x) (length-count xs)
    where
      by : (b : Bool) → length xs ≡ count (λ x. not (p x)) xs + count p xs
          → suc (length xs)
          ≡ cond (not b) (suc (count (λ x. not (p x)) xs)) (count (λ x. not (p x)) xs) + cond b (suc (count p xs)) (count p xs)
      by true e = omega arith
      by false e = omega arith

  -- a test in other words
  pub count_same : (q : A → Bool) → ((x : A) → p x ≡ q x) → (xs : List A) → count p xs ≡ count q xs
  count_same q h [] = refl
  count_same q h (x ∷ xs) = rw (h x, count_same q h xs)

  pub any_same : (q : A → Bool) → ((x : A) → p x ≡ q x) → (xs : List A) → any p xs ≡ any q xs
  any_same q h [] = refl
  any_same q h (x ∷ xs) = rw (h x, any_same q h xs)

  pub all_same : (q : A → Bool) → ((x : A) → p x ≡ q x) → (xs : List A) → all p xs ≡ all q xs
  all_same q h [] = refl
  all_same q h (x ∷ xs) = rw (h x, all_same q h xs)

  -- what holds of every member goes in front
  pub any-and : (b : Bool) (xs : List A) → b && any p xs ≡ any (λ x. b && p x) xs
  any-and b [] = and-false b
  any-and true (x ∷ xs) = ap (λ (r : Bool). p x || r) (any-and true xs)
  any-and false (x ∷ xs) = any-and false xs

  -- what passes two tests
  pub count-keep : (q : A → Bool) (xs : List A) → count q (keep p xs) ≡ count (λ x. p x && q x) xs
  count-keep q [] = refl
  count-keep q (x ∷ xs) = by (p x) (q x) refl (count-keep q xs)
    where
      by : (b c : Bool) → q x ≡ c → count q (keep p xs) ≡ count (λ x. p x && q x) xs
          → count q (cond b (x ∷ keep p xs) (keep p xs)) ≡ cond (b && c) (suc (count (λ x. p x && q x) xs)) (count (λ x. p x && q x) xs)
      by true true f e = rw (f, e)
      by true false f e = rw (f, e)
      by false c f e = e

  pub any-keep : (q : A → Bool) (xs : List A) → any q (keep p xs) ≡ any (λ x. p x && q x) xs
  any-keep q [] = refl
  any-keep q (x ∷ xs) = by (p x) (any-keep q xs)
    where
      by : (b : Bool) → any q (keep p xs) ≡ any (λ x. p x && q x) xs
          → any q (cond b (x ∷ keep p xs) (keep p xs)) ≡ b && q x || any (λ x. p x && q x) xs
      by true e = ap (λ (r : Bool). q x || r) e
      by false e = e

module _ (p : ℕ → Bool) (n : ℕ) where
  pub count-below : count p (below (suc n)) ≡ count p (below n) + one_if (p n)
  count-below = ap (count p) (below_suc n) ∙ count_append p (below n) (n ∷ []) ∙ by (p n)
    where
      by : (b : Bool) → count p (below n) + cond b 1 0 ≡ count p (below n) + one_if b
      by true = refl
      by false = refl

  pub any_below : any p (below (suc n)) ≡ any p (below n) || p n
  any_below = ap (any p) (below_suc n) ∙ any_append p (below n) (n ∷ []) ∙ by (any p (below n)) (p n)
    where
      by : (a b : Bool) → a || (b || false) ≡ a || b
      by true b = refl
      by false true = refl
      by false false = refl

lt_of : (k n : ℕ) → k < suc n → (k ≡ n → ⊥) → k < n
lt_of k n l e = omega (arith, e)

-- two tests that agree below n
pub count-below-same : (p q : ℕ → Bool) (n : ℕ) → ((k : ℕ) → k < n → p k ≡ q k) → count p (below n) ≡ count q (below n)
count-below-same p q zero h = refl
count-below-same p q (suc n) h =
    count-below p n ∙ rw (count-below-same p q n (λ k l. h k (omega arith)), h n (omega arith)) (sym (count-below q n))

pub any-below-none : (p : ℕ → Bool) (n : ℕ) → ((k : ℕ) → k < n → p k ≡ false) → any p (below n) ≡ false
any-below-none p zero h = refl
any-below-none p (suc n) h = any_below p n ∙ rw (any-below-none p n (λ k l. h k (omega arith)), h n (omega arith))

any-below_here : (p : ℕ → Bool) (n k : ℕ) → p k ≡ true → k < n → any p (below n) ≡ true
any-below_here p zero k y l = absurd (omega arith)
any-below_here p (suc n) k y l =
    any_below p n
    ∙ ⊎_elim (λ e. or_right (any p (below n)) (p n) (ap p (sym (eqb-true k n e)) ∙ y))
    (λ e. or_left (any p (below n)) (p n) (any-below_here p n k y (lt_of k n l (eqb-false k n e)))) (true_or_false (eqb k n))

pub any-below_self : (q : ℕ → Bool) (n a : ℕ) → a < n → any (λ x. q x && eqb x a) (below n) ≡ q a
any-below_self q n a l =
    ⊎_elim (λ e. any-below_here (λ x. q x && eqb x a) n a (and_both (q a) (eqb a a) e (eq-eqb a a refl)) l ∙ sym e)
    (λ e. any-below-none (λ x. q x && eqb x a) n (λ k h. here k e (eqb k a) refl) ∙ sym e) (true_or_false (q a))
  where
    here : (k : ℕ) → q a ≡ false → (b : Bool) → eqb k a ≡ b → q k && b ≡ false
    here k e true h = rw (eqb-true k a h) (rw e)
    here k e false h = and-false (q k)

pub count_most : (p : ℕ → Bool) (n : ℕ) → count p (below n) ≤ n
count_most p zero = omega arith
count_most p (suc n) = rw (count-below p n) (by (p n) (count_most p n))
  where
    by : (b : Bool) → count p (below n) ≤ n → count p (below n) + one_if b ≤ suc n
    by true h = omega arith
    by false h = omega arith

-- all of lists one after another
pub all-gather : {A B : Type 0} (p : B → Bool) (f : A → List B) (xs : List A) → all p (gather f xs) ≡ all (λ x. all p (f x)) xs
all-gather p f [] = refl
all-gather p f (x ∷ xs) = all_append p (f x) (gather f xs) ∙ ap (λ (b : Bool). all p (f x) && b) (all-gather p f xs)
