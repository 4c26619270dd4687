-- Numbers below a bound: what holds of all of them, how their list is cut, and the lowest that passes. Assumes nothing.
use mathlib.Core.Path.{◌≡◌, refl, sym, ap, ◌∙◌, ap₂}
use Prim.Native.Nat.{ℕ, zero, suc, ◌+◌, ◌-◌, ◌≤◌, ◌<◌}
use native.Mathlib.Omega.{arith}
use native.Mathlib.Numerals.{add-one}
use native.Mathlib.Nat.{zero-add, add-zero, suc-add, eq-or-lt_of_le}
use mathlib.Core.Bool.{Bool, true, false, cond}
use mathlib.Core.Logic.{⊎_elim}
use mathlib.Core.List.{List, [], ◌∷◌, ◌++◌}
use mathlib.Core.Option.{Option, none, some}
use Rattle.paper.specs.Lists.{from, below, find, all, lowest, keep, each}
use Rattle.paper.proofs.Bools.{never, false_if}
use Rattle.paper.proofs.Members.{in_all, all_in, in_below, below_in}

-- ---- numbers below n
pub all-below : (p : ℕ → Bool) (n : ℕ) → all p (below n) ≡ true → (k : ℕ) → k < n → p k ≡ true
all-below p n h k l = all_in p h (below_in n l)

pub below_all : (p : ℕ → Bool) (n : ℕ) → ((k : ℕ) → k < n → p k ≡ true) → all p (below n) ≡ true
below_all p n h = in_all p (below n) (λ k m. h k (in_below n m))

pub all_fails : (p : ℕ → Bool) (n k : ℕ) → k < n → p k ≡ false → all p (below n) ≡ false
all_fails p n k l e = false_if (all p (below n)) (λ h. never (p k) (all-below p n h k l) e)

from_split : (i k n : ℕ) → from i (k + n) ≡ from i k ++ from (i + k) n
from_split i zero n = rw (zero-add n, add-zero i)
from_split i (suc k) n = let e : i + suc k ≡ suc i + k = omega arith in rw (suc-add, e) (ap (λ (l : List ℕ). i ∷ l) (from_split (suc i) k n))

-- those before i, i, and those behind it
pub below_split : (i n : ℕ) → i < n → below n ≡ below i ++ (i ∷ from (suc i) (n - suc i))
below_split i n l =
    let e : n ≡ i + suc (n - suc i) = omega arith in
    ap below e ∙ from_split 0 i (suc (n - suc i)) ∙ rw (zero-add i)

-- one more, as code counts and as definitions recurse
pub below_more : (n : ℕ) → below (n + 1) ≡ below n ++ (n ∷ [])
below_more n = from_split 0 n 1 ∙ rw (zero-add n)

pub below_suc : (n : ℕ) → below (suc n) ≡ below n ++ (n ∷ [])
below_suc n = ap below (sym (add-one n)) ∙ below_more n

-- ---- the lowest that passes
find_none : (p : ℕ → Bool) (n i : ℕ) → ((k : ℕ) → i ≤ k → k < i + n → p k ≡ false) → find p (from i n) ≡ none
find_none p zero i h = refl
find_none p (suc n) i h = rw (h i (omega arith) (omega arith)) (find_none p n (suc i) (λ k a b. h k (omega arith) (omega arith)))

find-some : (p : ℕ → Bool) (n i j : ℕ) → ((k : ℕ) → i ≤ k → k < i + j → p k ≡ false) → p (i + j) ≡ true → j < n → find p (from i n) ≡ some (i + j)
find-some p zero i j h t l = absurd (omega arith)
find-some p (suc n) i zero h t l = let e : i + 0 ≡ i = omega arith in rw (rw e at t) (ap some (sym e))
find-some p (suc n) i (suc j) h t l =
    let e : i + suc j ≡ suc i + j = omega arith in
    rw (h i (omega arith) (omega arith)) (find-some p n (suc i) j (λ k a b. h k (omega arith) (omega arith)) (rw e at t) (omega arith) ∙ ap some (sym e))

pub lowest-none : (p : ℕ → Bool) (n : ℕ) → ((k : ℕ) → k < n → p k ≡ false) → lowest p n ≡ none
lowest-none p n h = find_none p n 0 (λ k a b. h k (omega arith))

pub lowest-some : (p : ℕ → Bool) (n j : ℕ) → ((k : ℕ) → k < j → p k ≡ false) → p j ≡ true → j < n → lowest p n ≡ some j
lowest-some p n j h t l =
    let e : 0 + j ≡ j = omega arith in
    find-some p n 0 j (λ k a b. h k (omega arith)) (rw e t) l ∙ ap some e

-- what `lowest` found
pub record Lowest (p : ℕ → Bool) (i n k : ℕ) : Type 0 where
  pub from_i : i ≤ k
  pub below_n : k < i + n
  pub passes : p k ≡ true
  pub none-lower : (j : ℕ) → i ≤ j → j < k → p j ≡ false

abbrev Found : (ℕ → Bool) → ℕ → ℕ → Option ℕ → Type 0
Found p i n none = (k : ℕ) → i ≤ k → k < i + n → p k ≡ false
Found p i n (some k) = Lowest p i n k

found-next : (p : ℕ → Bool) (i n : ℕ) → p i ≡ false → (o : Option ℕ) → Found p (suc i) n o → Found p i (suc n) o
found-next p i n e none f = λ k a b. ⊎_elim (λ q. ap p (sym q) ∙ e) (λ l. f k l (omega arith)) (eq-or-lt_of_le a)
found-next p i n e (some k) f = record {
  from_i = omega arith;
  below_n = omega arith;
  passes = f.passes;
  none-lower = λ j a b. ⊎_elim (λ q. ap p (sym q) ∙ e) (λ l. f.none-lower j l b) (eq-or-lt_of_le a);
}

find-found : (p : ℕ → Bool) (n i : ℕ) → Found p i n (find p (from i n))
find-found p zero i = λ k a b. absurd (omega arith)
find-found p (suc n) i = by (p i) refl (find-found p n (suc i))
  where
    by : (b : Bool) → p i ≡ b → Found p (suc i) n (find p (from (suc i) n)) → Found p i (suc n) (cond b (some i) (find p (from (suc i) n)))
    by true e f = record { from_i = omega arith; below_n = omega arith; passes = e; none-lower = λ j a b. absurd (omega arith) }
    by false e f = found-next p i n e (find p (from (suc i) n)) f

pub lowest-is : (p : ℕ → Bool) (n k : ℕ) → lowest p n ≡ some k → Lowest p 0 n k
lowest-is p n k e = rw e at (find-found p n 0)

pub lowest-is-none : (p : ℕ → Bool) (n : ℕ) → lowest p n ≡ none → (k : ℕ) → k < n → p k ≡ false
lowest-is-none p n e k l = let f : Found p 0 n none = rw e at (find-found p n 0) in f k (omega arith) (omega arith)

-- ---- tests that agree below n keep the same
from-same : (p q : ℕ → Bool) (n i : ℕ) → ((k : ℕ) → i ≤ k → k < i + n → p k ≡ q k) → keep p (from i n) ≡ keep q (from i n)
from-same p q zero i h = refl
from-same p q (suc n) i h =
    ap₂ (λ (c : Bool) (l : List ℕ). cond c (i ∷ l) l) (h i (omega arith) (omega arith)) (from-same p q n (suc i) (λ k a b. h k (omega arith) (omega arith)))

pub keep_same : (p q : ℕ → Bool) (n : ℕ) → ((k : ℕ) → k < n → p k ≡ q k) → keep p (below n) ≡ keep q (below n)
keep_same p q n h = from-same p q n 0 (λ k a b. h k (omega arith))

-- ---- what is kept of images are the images of what is kept
pub keep-each : {A B : Type 0} (p : B → Bool) (f : A → B) (xs : List A) → keep p (each f xs) ≡ each f (keep (λ x. p (f x)) xs)
keep-each p f [] = refl
keep-each p f (x ∷ xs) = by (p (f x)) (keep-each p f xs)
  where
    by : (b : Bool) → keep p (each f xs) ≡ each f (keep (λ x. p (f x)) xs)
        → cond b (f x ∷ keep p (each f xs)) (keep p (each f xs)) ≡ each f (cond b (x ∷ keep (λ x. p (f x)) xs) (keep (λ x. p (f x)) xs))
    by true e = ap (λ z. f x ∷ z) e
    by false e = e

-- ---- lists one behind the other
pub keep_append : {A : Type 0} (p : A → Bool) (xs ys : List A) → keep p (xs ++ ys) ≡ keep p xs ++ keep p ys
keep_append p [] ys = refl
keep_append p (x ∷ xs) ys = by (p x) (keep_append p xs ys)
  where
    by : (b : Bool) → keep p (xs ++ ys) ≡ keep p xs ++ keep p ys → cond b (x ∷ keep p (xs ++ ys)) (keep p (xs ++ ys)) ≡ cond b (x ∷ keep p xs) (keep p xs) ++ keep p ys
    by true e = ap (λ z. x ∷ z) e
    by false e = e
