-- Members of lists: what all, any, keep, each and gather say of them, the numbers below a bound as members, and lists in which nothing stands
-- twice. Assumes nothing.
use mathlib.Core.Path.{◌≡◌, refl, sym, ap, ap₂, ◌∙◌}
use Prim.Native.Nat.{ℕ, zero, suc, ◌+◌, ◌≤◌, ◌<◌}
use native.Mathlib.Omega.{arith}
use mathlib.Core.Bool.{Bool, true, false, ◌||◌, cond}
use lib.Dec.{leb, leb-suc-suc, leb-zero}
use lib.ListN.{length, get_or}
use mathlib.Core.Logic.{⊎_elim}
use mathlib.Core.List.{List, [], ◌∷◌, ◌++◌}
use mathlib.Core.Option.{Option, none, some}
pub use mathlib.Core.List.Memᴰ.{head as here}
pub use mathlib.Core.List.Memᴰ.{tail as later}
pub use mathlib.Core.List.{Memᴰ as In}
pub use mathlib.Core.List.Memᴰ.{cases_cons as in-cons}
pub use mathlib.Core.List.Memᴰ.{cast as in-equal}
pub use mathlib.Core.List.Memᴰ.{eq_of_singleton as in_one}
pub use mathlib.Core.List.Memᴰ.{not-nil as in-none}
pub use mathlib.Core.List.Memᴰ.{append_cases as in-append}
pub use mathlib.Core.List.Memᴰ.{append_left}
pub use mathlib.Core.List.Memᴰ.{append_right}
use Rattle.paper.specs.Lists.{from, below, all, any, keep, find, each, gather, count}
use Rattle.paper.proofs.Bools.{never, and-true, and_both, or-false, or-true, or_left, or_right, false_if}

module _ {A : Type 0} where
  -- ---- any, all, keep
  pub any_in : (p : A → Bool) (xs : List A) → any p xs ≡ true → (x : A) × In x xs × (p x ≡ true)
  any_in p [] h = never false h refl
  any_in p (x ∷ xs) h =
      ⊎_elim (λ e. (x, here refl, e)) (λ e. let r = any_in p xs e in (r.0, later r.1, r.2)) (or-true (p x) _ h)

  pub in_any : (p : A → Bool) {x : A} {xs : List A} → In x xs → p x ≡ true → any p xs ≡ true
  in_any p (here e) h = or_left _ _ (ap p (sym e) ∙ h)
  in_any p (later {x = y} m) h = or_right (p y) _ (in_any p m h)

  pub any_none : (p : A → Bool) {x : A} {xs : List A} → any p xs ≡ false → In x xs → p x ≡ false
  any_none p {x} {xs} h m = false_if (p x) (λ e. never (any p xs) (in_any p m e) h)

  pub none_any : (p : A → Bool) (xs : List A) → ((x : A) → In x xs → p x ≡ false) → any p xs ≡ false
  none_any p xs h = false_if (any p xs) (λ e. let r = any_in p xs e in never (p r.0) r.2 (h r.0 r.1))

  pub all_in : (p : A → Bool) {x : A} {xs : List A} → all p xs ≡ true → In x xs → p x ≡ true
  all_in p h (here {x = y} e) = ap p e ∙ (and-true (p y) _ h).0
  all_in p h (later {x = y} m) = all_in p (and-true (p y) _ h).1 m

  pub in_all : (p : A → Bool) (xs : List A) → ((x : A) → In x xs → p x ≡ true) → all p xs ≡ true
  in_all p [] h = refl
  in_all p (x ∷ xs) h = and_both _ _ (h x (here refl)) (in_all p xs (λ y m. h y (later m)))

  pub in_keep : (p : A → Bool) (xs : List A) {x : A} → In x (keep p xs) → In x xs × (p x ≡ true)
  in_keep p [] m = absurd (in-none m)
  in_keep p (y ∷ ys) {x} m = by (p y) refl m (in_keep p ys)
    where
      by : (b : Bool) → p y ≡ b → In x (cond b (y ∷ keep p ys) (keep p ys)) → (In x (keep p ys) → In x ys × (p x ≡ true)) → In x (y ∷ ys) × (p x ≡ true)
      by true e m ih = ⊎_elim (λ q. (here q, ap p q ∙ e)) (λ k. (later (ih k).0, (ih k).1)) (in-cons m)
      by false e m ih = (later (ih m).0, (ih m).1)

  pub keep_in : (p : A → Bool) {x : A} {xs : List A} → In x xs → p x ≡ true → In x (keep p xs)
  keep_in p (here {xs = ys} e) h = rw (ap p (sym e) ∙ h) (here e)
  keep_in p (later {x = y} {xs = ys} m) h = by (p y) (keep_in p m h)
    where
      by : (b : Bool) {x : A} → In x (keep p ys) → In x (cond b (y ∷ keep p ys) (keep p ys))
      by true k = later k
      by false k = k

  -- tests that agree on all members keep the same
  pub keep-alike : (p q : A → Bool) (xs : List A) → ((x : A) → In x xs → p x ≡ q x) → keep p xs ≡ keep q xs
  keep-alike p q [] h = refl
  keep-alike p q (x ∷ xs) h = ap₂ (λ (c : Bool) (l : List A). cond c (x ∷ l) l) (h x (here refl)) (keep-alike p q xs (λ y m. h y (later m)))

  pub any-alike : (p q : A → Bool) (xs : List A) → ((x : A) → In x xs → p x ≡ q x) → any p xs ≡ any q xs
  any-alike p q [] h = refl
  any-alike p q (x ∷ xs) h = ap₂ (λ (a b : Bool). a || b) (h x (here refl)) (any-alike p q xs (λ y m. h y (later m)))

  pub keep-none : (p : A → Bool) (xs : List A) → ((x : A) → In x xs → p x ≡ false) → keep p xs ≡ []
  keep-none p [] h = refl
  keep-none p (x ∷ xs) h = rw (h x (here refl)) (keep-none p xs (λ y m. h y (later m)))

  -- nothing is found exactly if no member passes
  pub find_none : (p : A → Bool) (xs : List A) → ((x : A) → In x xs → p x ≡ false) → find p xs ≡ none
  find_none p [] h = refl
  find_none p (x ∷ xs) h = rw (h x (here refl)) (find_none p xs (λ y m. h y (later m)))

  pub none_found : (p : A → Bool) (xs : List A) {x : A} → find p xs ≡ none → In x xs → p x ≡ false
  none_found p [] h m = absurd (in-none m)
  none_found p (y ∷ ys) {x} h m = by (p y) refl h (none_found p ys)
    where
      by : (b : Bool) → p y ≡ b → cond b (some y) (find p ys) ≡ none → (find p ys ≡ none → In x ys → p x ≡ false) → p x ≡ false
      by true e q ih = never true refl (ap found q)
        where
          found : Option A → Bool
          found none = false
          found (some z) = true
      by false e q ih = ⊎_elim (λ r. ap p r ∙ e) (λ k. ih q k) (in-cons m)

module _ {A B : Type 0} where
  -- ---- each and gather
  pub in_each : (f : A → B) (xs : List A) {y : B} → In y (each f xs) → (x : A) × In x xs × (y ≡ f x)
  in_each f [] m = absurd (in-none m)
  in_each f (x ∷ xs) m =
      ⊎_elim (λ e. (x, here refl, e)) (λ k. let r = in_each f xs k in (r.0, later r.1, r.2)) (in-cons m)

  pub each_in : (f : A → B) {x : A} {xs : List A} → In x xs → In (f x) (each f xs)
  each_in f (here e) = here (ap f e)
  each_in f (later m) = later (each_in f m)

  pub in_gather : (f : A → List B) (xs : List A) {y : B} → In y (gather f xs) → (x : A) × In x xs × In y (f x)
  in_gather f [] m = absurd (in-none m)
  in_gather f (x ∷ xs) m =
      ⊎_elim (λ k. (x, here refl, k)) (λ k. let r = in_gather f xs k in (r.0, later r.1, r.2)) (in-append (f x) m)

  pub gather_in : (f : A → List B) {x : A} {y : B} {xs : List A} → In x xs → In y (f x) → In y (gather f xs)
  gather_in f {y = y} (here {x = z} {xs = zs} e) k = append_left (gather f zs) (rw e at k)
  gather_in f (later {x = z} m) k = append_right (f z) (gather_in f m k)

  -- functions that agree on all members
  pub each-alike : (f g : A → B) (xs : List A) → ((x : A) → In x xs → f x ≡ g x) → each f xs ≡ each g xs
  each-alike f g [] h = refl
  each-alike f g (x ∷ xs) h = ap₂ (λ (y : B) (ys : List B). y ∷ ys) (h x (here refl)) (each-alike f g xs (λ y m. h y (later m)))

  pub gather-alike : (f g : A → List B) (xs : List A) → ((x : A) → In x xs → f x ≡ g x) → gather f xs ≡ gather g xs
  gather-alike f g [] h = refl
  gather-alike f g (x ∷ xs) h = ap₂ (λ (y ys : List B). y ++ ys) (h x (here refl)) (gather-alike f g xs (λ y m. h y (later m)))

-- ---- numbers below n
in_from : (n i : ℕ) {k : ℕ} → In k (from i n) → (i ≤ k) × (k < i + n)
in_from zero i m = absurd (in-none m)
in_from (suc n) i {k} m =
    ⊎_elim (λ e. (omega arith, omega arith)) (λ r. let q = in_from n (suc i) r in (omega arith, omega arith)) (in-cons m)

pub in_below : (n : ℕ) {k : ℕ} → In k (below n) → k < n
in_below n m = let r = in_from n 0 m in omega arith

from_in : (n i k : ℕ) → k < n → In (i + k) (from i n)
from_in zero i k l = absurd (omega arith)
from_in (suc n) i zero l = let e : i + 0 ≡ i = omega arith in here e
from_in (suc n) i (suc k) l = let e : i + suc k ≡ suc i + k = omega arith in later (in-equal e (from_in n (suc i) k (omega arith)))

pub below_in : (n : ℕ) {k : ℕ} → k < n → In k (below n)
below_in n {k} l = let e : k ≡ 0 + k = omega arith in in-equal e (from_in n 0 k l)

-- those below n that pass
pub in_keep-below : (p : ℕ → Bool) (n : ℕ) {k : ℕ} → In k (keep p (below n)) → (k < n) × (p k ≡ true)
in_keep-below p n m = let r = in_keep p (below n) m in (in_below n r.0, r.1)

-- ---- nothing stands twice
abbrev pub Distinct : {A : Type 0} → List A → Type 0
Distinct [] = Unit {0}
Distinct (x ∷ xs) = (In x xs → ⊥) × Distinct xs

module _ {A : Type 0} where
  pub distinct-keep : (p : A → Bool) (xs : List A) → Distinct xs → Distinct (keep p xs)
  distinct-keep p [] d = tt
  distinct-keep p (x ∷ xs) d = by (p x) (distinct-keep p xs d.1)
    where
      by : (b : Bool) → Distinct (keep p xs) → Distinct (cond b (x ∷ keep p xs) (keep p xs))
      by true e = (λ m. d.0 (in_keep p xs m).0, e)
      by false e = e

  pub distinct_append : (xs ys : List A) → Distinct xs → Distinct ys → ((x : A) → In x xs → In x ys → ⊥) → Distinct (xs ++ ys)
  distinct_append [] ys d e h = e
  distinct_append (x ∷ xs) ys d e h = (
    λ m. ⊎_elim d.0 (h x (here refl)) (in-append xs m),
    distinct_append xs ys d.1 e (λ z m. h z (later m)),
  )

  pub entry_in : (a : A) (xs : List A) (k : ℕ) → k < length xs → In (get_or xs k a) xs
  entry_in a [] k l = absurd (omega arith)
  entry_in a (x ∷ xs) zero l = here refl
  entry_in a (x ∷ xs) (suc k) l = later (entry_in a xs k (omega arith))

  pub in_entry : (a : A) {x : A} {xs : List A} → In x xs → (k : ℕ) × (k < length xs) × (x ≡ get_or xs k a)
  in_entry a (here e) = (0, omega arith, e)
  in_entry a (later m) = let r = in_entry a m in (suc r.0, omega (arith, r.1), r.2)

  -- an entry has one place
  pub distinct-one : (a : A) (xs : List A) → Distinct xs → (j k : ℕ) → j < length xs → k < length xs → get_or xs j a ≡ get_or xs k a → j ≡ k
  distinct-one a [] d j k lj lk e = absurd (omega arith)
  distinct-one a (x ∷ xs) d zero zero lj lk e = refl
  distinct-one a (x ∷ xs) d zero (suc k) lj lk e = absurd (d.0 (in-equal e (entry_in a xs k (omega arith))))
  distinct-one a (x ∷ xs) d (suc j) zero lj lk e = absurd (d.0 (in-equal (sym e) (entry_in a xs j (omega arith))))
  distinct-one a (x ∷ xs) d (suc j) (suc k) lj lk e = ap suc (distinct-one a xs d.1 j k (omega arith) (omega arith) e)

module _ {A B : Type 0} where
  pub distinct-each : (f : A → B) → ((x y : A) → f x ≡ f y → x ≡ y) → (xs : List A) → Distinct xs → Distinct (each f xs)
  distinct-each f h [] d = tt
  distinct-each f h (x ∷ xs) d = (
    λ m. let r = in_each f xs m in d.0 (in-equal (h x r.0 r.2) r.1),
    distinct-each f h xs d.1,
  )

  -- lists that are distinct each, and of which no two have a member in common
  pub distinct-gather : (f : A → List B) → ((x : A) → Distinct (f x)) → ((x y : A) (z : B) → In z (f x) → In z (f y) → x ≡ y)
      → (xs : List A) → Distinct xs → Distinct (gather f xs)
  distinct-gather f d h [] e = tt
  distinct-gather f d h (x ∷ xs) e =
      distinct_append (f x) (gather f xs) (d x) (distinct-gather f d h xs e.1)
      (λ z m k. let r = in_gather f xs k in e.0 (in-equal (h x r.0 z m r.2) r.1))

distinct_from : (n i : ℕ) → Distinct (from i n)
distinct_from zero i = tt
distinct_from (suc n) i = (λ m. let r = in_from n (suc i) m in omega arith, distinct_from n (suc i))

pub distinct-below : (n : ℕ) → Distinct (below n)
distinct-below n = distinct_from n 0

-- ---- counts
pub any-count : {A : Type 0} (p : A → Bool) (xs : List A) → any p xs ≡ leb 1 (count p xs)
any-count p [] = refl
any-count p (x ∷ xs) = by (p x) (any-count p xs)
  where
    by : (b : Bool) → any p xs ≡ leb 1 (count p xs) → b || any p xs ≡ leb 1 (cond b (suc (count p xs)) (count p xs))
    by true h = sym (leb-suc-suc 0 (count p xs) ∙ leb-zero (count p xs))
    by false h = h

pub only : {A : Type 0} (xs : List A) {x : A} → length xs ≡ 1 → In x xs → xs ≡ x ∷ []
only [] h k = absurd (in-none k)
only (y ∷ []) h k = ap (λ z. z ∷ []) (sym (in_one k))
only (y ∷ (z ∷ zs)) h k = absurd (omega arith)

-- ---- each of functions that agree
-- two functions that agree wherever a test fails, over entries where it fails
pub each_same : {A : Type 0} (f g : ℕ → A) (p : ℕ → Bool) → ((j : ℕ) → p j ≡ false → f j ≡ g j) → (js : List ℕ) → any p js ≡ false → each f js ≡ each g js
each_same f g p h [] e = refl
each_same f g p h (j ∷ js) e = ap₂ (λ x xs. x ∷ xs) (h j (or-false (p j) _ e).0) (each_same f g p h js (or-false (p j) _ e).1)

-- ---- lists with an entry behind them
pub snoc_some : {A B : Type 0} (q : List A) (e : A) → [] ≡ q ++ (e ∷ []) → B
snoc_some [] e h = let z : ◌≡◌ {A = ℕ} 0 1 = cc in absurd (omega arith)
snoc_some (x ∷ q) e h = let z : ◌≡◌ {A = ℕ} 0 1 = cc in absurd (omega arith)

pub snoc_one : {A : Type 0} (p q : List A) {d e : A} → p ++ (d ∷ []) ≡ q ++ (e ∷ []) → (p ≡ q) × (d ≡ e)
snoc_one [] [] h = (refl, cc)
snoc_one [] (y ∷ q) {d} {e} h = snoc_some q e (cc)
snoc_one (x ∷ p) [] {d} {e} h = snoc_some p d (cc)
snoc_one (x ∷ p) (y ∷ q) {d} {e} h =
    let a : x ≡ y = cc in
    let b : p ++ (d ∷ []) ≡ q ++ (e ∷ []) = cc in
    let r = snoc_one p q b in
    (ap₂ (λ z zs. z ∷ zs) a r.0, r.1)
