-- Lists said as runs, entry by entry, and a sort carried over to what its entries stand for. Assumes nothing.
use mathlib.Core.Path.{◌≡◌, refl, sym, ap, ap₂, ◌∙◌}
use mathlib.Core.Bool.{Bool, true}
use mathlib.Core.List.{List, [], ◌∷◌}
use Prim.Native.Nat.{ℕ, zero, suc, ◌+◌, ◌≤◌, ◌<◌, Ordering}
use native.Mathlib.Omega.{arith}
use lib.ListN.{length, get_or, take, drop}
use lib.Seq.{drop-cons}
use Rattle.paper.specs.Lists.{at, from, each, keep}
use Rattle.paper.specs.Offers.{insert, sort}
use Rattle.paper.proofs.Members.{In, here, later}
use Rattle.paper.proofs.Orders.{in_sort}
use Rattle.ends_paths.specs.Blocks.{run}
use Rattle.ends_paths.proofs.Insertion.{in_from}

-- ---- lists
pub each-each : {A B C : Type 0} (f : B → C) (g : A → B) (xs : List A) → each f (each g xs) ≡ each (λ x. f (g x)) xs
each-each f g [] = refl
each-each f g (x ∷ xs) = ap (λ z. f (g x) ∷ z) (each-each f g xs)

pub keep_all : {A : Type 0} (p : A → Bool) (xs : List A) → ((x : A) → In x xs → p x ≡ true) → keep p xs ≡ xs
keep_all p [] h = refl
keep_all p (x ∷ xs) h = rw (h x (here refl)) (ap (λ z. x ∷ z) (keep_all p xs (λ y m. h y (later m))))

-- a run of the entries of a list
pub run-list : {A : Type 0} (d : A) (f : ℕ → A) (lo : ℕ) (xs : List A) → ((j : ℕ) → j < length xs → f (lo + j) ≡ get_or xs j d) → run f lo (length xs) ≡ xs
run-list d f lo [] h = refl
run-list d f lo (x ∷ xs) h =
    ap₂ (λ z zs. z ∷ zs) (ap f (let e : lo ≡ lo + 0 = omega arith in e) ∙ h 0 (omega arith))
    (run-list d f (suc lo) xs (λ j l. ap f (let e : suc lo + j ≡ lo + suc j = omega arith in e) ∙ h (suc j) (omega arith)))

pub run-entry : {A : Type 0} (d : A) (f : ℕ → A) (lo n k : ℕ) → k < n → get_or (run f lo n) k d ≡ f (lo + k)
run-entry d f lo zero k l = absurd (omega arith)
run-entry d f lo (suc n) zero l = ap f (let e : lo ≡ lo + 0 = omega arith in e)
run-entry d f lo (suc n) (suc k) l = run-entry d f (suc lo) n k (omega arith) ∙ ap f (let e : suc lo + k ≡ lo + suc k = omega arith in e)

pub run-part : (l : List ℕ) (lo n : ℕ) → lo + n ≤ length l → take n (drop lo l) ≡ run (at l) lo n
run-part l lo zero h = refl
run-part l lo (suc n) h = ap (take (suc n)) (drop-cons l lo 0 (omega arith)) ∙ ap (λ z. at l lo ∷ z) (run-part l (suc lo) n (omega arith))

-- ---- a sort carried over
module _ {B : Type 0} (f : ℕ → B) (c : ℕ → ℕ → Ordering) (d : B → B → Ordering) where
  insert-each : (x : ℕ) (ys : List ℕ) → ((y : ℕ) → In y ys → c x y ≡ d (f x) (f y)) → each f (insert c x ys) ≡ insert d (f x) (each f ys)
  insert-each x [] h = refl
  insert-each x (y ∷ ys) h = by (c x y) refl (insert-each x ys (λ z m. h z (later m)))
    where
      by : (o : Ordering) → c x y ≡ o → each f (insert c x ys) ≡ insert d (f x) (each f ys) → each f (insert c x (y ∷ ys)) ≡ insert d (f x) (f y ∷ each f ys)
      by Ordering.lt q ih = rw (q, sym (h y (here refl)) ∙ q)
      by Ordering.eq q ih = rw (q, sym (h y (here refl)) ∙ q)
      by Ordering.gt q ih = rw (q, sym (h y (here refl)) ∙ q) (ap (λ z. f y ∷ z) ih)

  -- of numbers that follow each other; a number is compared with those behind it alone
  pub sort-each : (lo n : ℕ) → ((x y : ℕ) → x < y → y < lo + n → c x y ≡ d (f x) (f y)) → each f (sort c (from lo n)) ≡ sort d (run f lo n)
  sort-each lo zero h = refl
  sort-each lo (suc n) h =
      insert-each lo (sort c (from (suc lo) n)) (λ y m. let q = in_from (suc lo) n (in_sort c (from (suc lo) n) m) in h lo y (omega arith) (omega arith))
      ∙ ap (insert d (f lo)) (sort-each (suc lo) n (λ x y a b. h x y a (omega arith)))
