-- Lengths of lists, lists put one after another, and what stands at a place of a list or behind it. Assumes nothing.
use mathlib.Core.Path.{◌≡◌, refl, sym, ap, ◌∙◌}
use Prim.Native.Nat.{ℕ, zero, suc, ◌+◌, ◌-◌, ◌*◌, ◌≤◌, ◌<◌}
use native.Mathlib.Omega.{arith}
use native.Mathlib.Nat.{zero-add, add-zero, add-suc, suc-add, mul-zero, mul-suc}
use mathlib.Core.Bool.{Bool, true, false, cond}
use mathlib.Core.List.{List, [], ◌∷◌, ◌++◌, append_assoc}
use lib.ListN.{length, get_or, drop, length-append, length-drop, get_or-append}
use lib.Seq.{drop-cons, get_or-append-add}
use Rattle.paper.specs.Lists.{at, from, below, each, keep, gather}
use Rattle.paper.proofs.Members.{In, here, later}

pub length-zero : {A : Type 0} (xs : List A) → length xs ≡ 0 → xs ≡ []
length-zero [] h = refl
length-zero (x ∷ xs) h = absurd (omega arith)

pub length_from : (i n : ℕ) → length (from i n) ≡ n
length_from i zero = refl
length_from i (suc n) = ap suc (length_from (suc i) n)

pub length-each : {A B : Type 0} (f : A → B) (xs : List A) → length (each f xs) ≡ length xs
length-each f [] = refl
length-each f (x ∷ xs) = ap suc (length-each f xs)

pub length-keep : {A : Type 0} (p : A → Bool) (xs : List A) → length (keep p xs) ≤ length xs
length-keep p [] = omega arith
length-keep p (x ∷ xs) = by (p x) (length-keep p xs)
  where
    by : (c : Bool) → length (keep p xs) ≤ length xs → length (cond c (x ∷ keep p xs) (keep p xs)) ≤ suc (length xs)
    by true h = omega arith
    by false h = omega arith

-- ---- lists one after another
module _ {A B : Type 0} (w : A → List B) where
  pub gather_append : (xs ys : List A) → gather w (xs ++ ys) ≡ gather w xs ++ gather w ys
  gather_append [] ys = refl
  gather_append (x ∷ xs) ys = ap (λ (l : List B). w x ++ l) (gather_append xs ys) ∙ sym (append_assoc (w x) (gather w xs) (gather w ys))

  pub gather-each : {C : Type 0} (f : C → A) (xs : List C) → gather w (each f xs) ≡ gather (λ x. w (f x)) xs
  gather-each f [] = refl
  gather-each f (x ∷ xs) = ap (λ (l : List B). w (f x) ++ l) (gather-each f xs)

  pub gather-gather : {C : Type 0} (v : C → List A) (xs : List C) → gather w (gather v xs) ≡ gather (λ x. gather w (v x)) xs
  gather-gather v [] = refl
  gather-gather v (x ∷ xs) = gather_append (v x) (gather v xs) ∙ ap (λ (l : List B). gather w (v x) ++ l) (gather-gather v xs)

  pub length-gather_le : (k : ℕ) → ((x : A) → length (w x) ≤ k) → (xs : List A) → length (gather w xs) ≤ k * length xs
  length-gather_le k h [] = omega (arith, mul-zero k)
  length-gather_le k h (x ∷ xs) = omega (arith, length-append (w x) (gather w xs), h x, length-gather_le k h xs, mul-suc k (length xs))

  pub length-gather_most : (k : ℕ) (xs : List A) → ((x : A) → In x xs → length (w x) ≤ k) → length (gather w xs) ≤ k * length xs
  length-gather_most k [] h = omega (arith, mul-zero k)
  length-gather_most k (x ∷ xs) h =
      omega (arith, length-append (w x) (gather w xs), h x (here refl), length-gather_most k xs (λ y m. h y (later m)), mul-suc k (length xs))

  module _ (k : ℕ) (same : (x : A) → length (w x) ≡ k) where
    pub length-gather : (xs : List A) → length (gather w xs) ≡ k * length xs
    length-gather [] = sym (mul-zero k)
    length-gather (x ∷ xs) = omega (arith, length-append (w x) (gather w xs), same x, length-gather xs, mul-suc k (length xs))

    -- entry r of part i
    pub gather-at : (a : A) (b : B) (xs : List A) (rest : List B) (i r : ℕ) → i < length xs → r < k
        → get_or (gather w xs ++ rest) (k * i + r) b ≡ get_or (w (get_or xs i a)) r b
    gather-at a b [] rest i r l m = absurd (omega arith)
    gather-at a b (x ∷ xs) rest zero r l m =
        let e : k * 0 + r ≡ r = ap (λ (y : ℕ). y + r) (mul-zero k) ∙ zero-add r in
        rw (e, append_assoc (w x) (gather w xs) rest) (get_or-append (w x) (gather w xs ++ rest) b r (omega (arith, same x)))
    gather-at a b (x ∷ xs) rest (suc i) r l m =
        let e : k * suc i + r ≡ length (w x) + (k * i + r) = omega (arith, mul-suc k i, same x) in
        rw (e, append_assoc (w x) (gather w xs) rest) (get_or-append-add (w x) (gather w xs ++ rest) (k * i + r) b ∙ gather-at a b xs rest i r (omega arith) m)

-- ---- what stands at a place
-- a list is what stands at its numbers
each_from : {A : Type 0} (a : A) (f : ℕ → A) (xs : List A) (i : ℕ) → ((k : ℕ) → k < length xs → f (i + k) ≡ get_or xs k a) → each f (from i (length xs)) ≡ xs
each_from a f [] i h = refl
each_from {A} a f (x ∷ xs) i h =
    let e : f i ≡ x = rw (add-zero i) at (h 0 (omega arith)) in
    let r : (k : ℕ) → k < length xs → f (suc i + k) ≡ get_or xs k a = λ k l. rw (suc-add, ← add-suc) (h (suc k) (omega arith)) in
    λ j. e j ∷ each_from a f xs (suc i) r j

pub each_below : {A : Type 0} (a : A) (f : ℕ → A) (xs : List A) → ((k : ℕ) → k < length xs → f k ≡ get_or xs k a) → each f (below (length xs)) ≡ xs
each_below a f xs h = each_from a f xs 0 (λ k l. rw zero-add (h k l))

-- the next four entries
pub drop-four : (b : List ℕ) (i : ℕ) → i + 4 ≤ length b → drop i b ≡ at b i ∷ at b (i + 1) ∷ at b (i + 2) ∷ at b (i + 3) ∷ drop (i + 4) b
drop-four b i h =
    let e1 : i + 1 ≡ suc i = omega arith in
    let e2 : i + 2 ≡ suc (suc i) = omega arith in
    let e3 : i + 3 ≡ suc (suc (suc i)) = omega arith in
    let e4 : i + 4 ≡ suc (suc (suc (suc i))) = omega arith in
    let n : (k : ℕ) → k < length b → drop k b ≡ at b k ∷ drop (suc k) b = λ k l. drop-cons b k 0 l in
    rw (e1, e2, e3, e4, n i (omega arith), n (suc i) (omega arith), n (suc (suc i)) (omega arith), n (suc (suc (suc i))) (omega arith))

-- what is behind place p begins with what stands there
pub drop_head : (b rest : List ℕ) (p v : ℕ) → drop p b ≡ v ∷ rest → (p < length b) × (at b p ≡ v)
drop_head b rest p v h =
    let n : suc (length rest) ≡ length b - p = sym (ap length h) ∙ length-drop p b in
    let l : p < length b = omega arith in
    let e : at b p ∷ drop (suc p) b ≡ v ∷ rest = sym (drop-cons b p 0 l) ∙ h in
    (l, cc)
