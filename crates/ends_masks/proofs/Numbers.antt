-- Tests over lists in other words: what agrees on the members, what is asked of a list made from another. Assumes nothing.
use mathlib.Core.Path.{◌≡◌, refl, ap, ap₂, ◌∙◌}
use Prim.Native.Nat.{ℕ, suc, ◌<◌}
use mathlib.Core.Bool.{Bool, true, false, ◌&&◌, ◌||◌, cond}
use mathlib.Core.List.{List, [], ◌∷◌}
use mathlib.Core.Option.{Option, some}
use lib.ListN.{length}
use Rattle.paper.specs.Lists.{below, all, any, keep, find, count, gather, each, lowest}
use Rattle.paper.proofs.Members.{In, here, later, in_below}
use Rattle.paper.proofs.Counts.{any_append}

-- ---- tests that agree on the members
module _ {A : Type 0} (p q : A → Bool) where
  pub any-alike : (xs : List A) → ((x : A) → In x xs → p x ≡ q x) → any p xs ≡ any q xs
  any-alike [] h = refl
  any-alike (x ∷ xs) h = ap₂ (λ (a b : Bool). a || b) (h x (here refl)) (any-alike xs (λ y m. h y (later m)))

  pub all_alike : (xs : List A) → ((x : A) → In x xs → p x ≡ q x) → all p xs ≡ all q xs
  all_alike [] h = refl
  all_alike (x ∷ xs) h = ap₂ (λ (a b : Bool). a && b) (h x (here refl)) (all_alike xs (λ y m. h y (later m)))

  find-alike : (xs : List A) → ((x : A) → In x xs → p x ≡ q x) → find p xs ≡ find q xs
  find-alike [] h = refl
  find-alike (x ∷ xs) h = ap₂ (λ (a : Bool) (b : Option A). cond a (some x) b) (h x (here refl)) (find-alike xs (λ y m. h y (later m)))

  -- the first of those kept
  pub find-keep : (xs : List A) → find q (keep p xs) ≡ find (λ x. p x && q x) xs
  find-keep [] = refl
  find-keep (x ∷ xs) = by (p x) (find-keep xs)
    where
      by : (b : Bool) → find q (keep p xs) ≡ find (λ x. p x && q x) xs → find q (cond b (x ∷ keep p xs) (keep p xs)) ≡ cond (b && q x) (some x) (find (λ x. p x && q x) xs)
      by true e = ap (λ (r : Option A). cond (q x) (some x) r) e
      by false e = e

module _ (p q : ℕ → Bool) (n : ℕ) (h : (k : ℕ) → k < n → p k ≡ q k) where
  pub any-below-alike : any p (below n) ≡ any q (below n)
  any-below-alike = any-alike p q (below n) (λ k m. h k (in_below n m))

  pub all-below-alike : all p (below n) ≡ all q (below n)
  all-below-alike = all_alike p q (below n) (λ k m. h k (in_below n m))

  pub lowest-alike : lowest p n ≡ lowest q n
  lowest-alike = find-alike p q (below n) (λ k m. h k (in_below n m))

-- ---- lists made from others
module _ {A B : Type 0} (p : B → Bool) where
  pub any-each : (f : A → B) (xs : List A) → any p (each f xs) ≡ any (λ x. p (f x)) xs
  any-each f [] = refl
  any-each f (x ∷ xs) = ap (λ (b : Bool). p (f x) || b) (any-each f xs)

  pub count-each : (f : A → B) (xs : List A) → count p (each f xs) ≡ count (λ x. p (f x)) xs
  count-each f [] = refl
  count-each f (x ∷ xs) = ap (λ (b : ℕ). cond (p (f x)) (suc b) b) (count-each f xs)

  pub any-gather : (f : A → List B) (xs : List A) → any p (gather f xs) ≡ any (λ x. any p (f x)) xs
  any-gather f [] = refl
  any-gather f (x ∷ xs) = any_append p (f x) (gather f xs) ∙ ap (λ (b : Bool). any p (f x) || b) (any-gather f xs)

-- those kept, by their number
pub kept-number : {A : Type 0} (p : A → Bool) (xs : List A) → length (keep p xs) ≡ count p xs
kept-number p [] = refl
kept-number p (x ∷ xs) = by (p x) (kept-number p xs)
  where
    by : (b : Bool) → length (keep p xs) ≡ count p xs → length (cond b (x ∷ keep p xs) (keep p xs)) ≡ cond b (suc (count p xs)) (count p xs)
    by true e = ap suc e
    by false e = e
