-- Laws of decimal numbers: how long they are, digit by digit, and lists of them with commas. Assumes nothing.
use mathlib.Core.Path.{◌≡◌, sym, ap, ◌∙◌}
use mathlib.Core.Logic.{⊎_elim}
use mathlib.Core.List.{List, [], ◌∷◌, ◌++◌, append-nil}
use Prim.Native.Nat.{ℕ, zero, suc, ◌+◌, ◌-◌, ◌/◌, ◌%◌, ◌^◌, ◌≤◌, ◌<◌}
use native.Mathlib.Omega.{arith}
use native.Mathlib.Numerals.{add-one}
use lib.Dec.{ltb}
use lib.ListN.{length, take, drop, set, length-append}
use lib.Seq.{drop-cons}
use borrow.Author.Tests.{lt-ltb, le-ltb, ltb-true, ltb-false}
use Rattle.paper.specs.Lists.{at, each, gather}
use Rattle.paper.specs.Program.{digits, decimal, parted, commas}
use Rattle.paper.proofs.Bools.{true_or_false}
use Rattle.paper.proofs.Lengths.{gather-each}
use Rattle.sheet_numbers.specs.Written.{Written}
use Rattle.sheet_numbers.proofs.Writing.{wrote_none, wrote_one, wrote_more}

-- ---- digits
digits-few : (n v : ℕ) → 0 < n → v < 10 → digits n v ≡ (48 + v % 10) ∷ []
unfolding digits
digits-few zero v p l = absurd (omega arith)
digits-few (suc n) v p l = rw (lt-ltb v 10 l)

digits_more : (n v : ℕ) → 0 < n → 10 ≤ v → digits n v ≡ digits (n - 1) (v / 10) ++ ((48 + v % 10) ∷ [])
unfolding digits
digits_more zero v p l = absurd (omega arith)
digits_more (suc n) v p l = let e : suc n - 1 ≡ n = omega arith in rw (e, le-ltb v 10 l)

more-length : (n v : ℕ) → 10 ≤ v → length (digits (suc n) v) ≡ length (digits n (v / 10)) + 1
unfolding digits
more-length n v l = rw (le-ltb v 10 l) (length-append (digits n (v / 10)) ((48 + v % 10) ∷ []))

-- a number below a power of ten has no more digits than it has noughts
digits-short : (k n v : ℕ) → v < 10 ^ suc k → length (digits n v) ≤ suc k
unfolding digits
digits-short zero zero v l = omega arith
digits-short (suc k) zero v l = omega arith
digits-short zero (suc n) v l = rw (digits-few (suc n) v (omega arith) (omega arith)) (omega arith)
digits-short (suc k) (suc n) v l =
    ⊎_elim (λ e. rw (digits-few (suc n) v (omega arith) (ltb-true v 10 e)) (omega arith))
    (λ e. omega (arith, more-length n v (ltb-false v 10 e), digits-short k n (v / 10) (omega arith)))
    (true_or_false (ltb v 10))

at_most : (n v : ℕ) → length (digits n v) ≤ n
unfolding digits
at_most zero v = omega arith
at_most (suc n) v =
    ⊎_elim (λ e. rw (digits-few (suc n) v (omega arith) (ltb-true v 10 e)) (omega arith))
    (λ e. omega (arith, more-length n v (ltb-false v 10 e), at_most n (v / 10)))
    (true_or_false (ltb v 10))

-- a digit, behind those before it if there are any
module _ (d : List ℕ) (to n v : ℕ) where
  pub wrote_no_digit : n ≡ 0 → Written d to (digits n v) d to
  unfolding digits
  wrote_no_digit e = rw e (wrote_none d to)

  pub wrote_digit : (n ≡ 0 → ⊥) → v < 10 → Written d to (digits n v) (set d to (48 + v % 10)) (to + 1)
  wrote_digit z l = rw (digits-few n v (omega arith) l) (wrote_one d to (48 + v % 10))

  pub wrote_digits : {e : List ℕ} {p : ℕ} → (n ≡ 0 → ⊥) → 10 ≤ v → Written d to (digits (n - 1) (v / 10)) e p → Written d to (digits n v) (set e p (48 + v % 10)) (p + 1)
  wrote_digits z l w = rw (digits_more n v (omega arith) l) (wrote_more w (48 + v % 10))

module _ (n v : ℕ) (z : n ≡ 0 → ⊥) where
  pub one_digit : v < 10 → length (digits n v) ≡ 1
  one_digit l = ap length (digits-few n v (omega arith) l)

  pub one_more : 10 ≤ v → length (digits n v) ≡ length (digits (n - 1) (v / 10)) + 1
  one_more l = rw (digits_more n v (omega arith) l) (length-append (digits (n - 1) (v / 10)) ((48 + v % 10) ∷ []))

-- a byte in decimal
pub byte-short : (v : ℕ) → v < 256 → length (decimal v) ≤ 3
byte-short v l = digits-short 2 10 v (omega arith)

pub decimal-short : (v : ℕ) → length (decimal v) ≤ 10
decimal-short v = at_most 10 v

-- ---- words in a row
pub parted-more : (b : ℕ) (x : List ℕ) (ys : List (List ℕ)) → parted b (x ∷ ys) ≡ x ++ gather (λ y. b ∷ y) ys
parted-more b x [] = sym (append-nil x)
parted-more b x (y ∷ ys) = ap (λ (l : List ℕ). x ++ (b ∷ l)) (parted-more b y ys)

-- numbers behind a first one
abbrev pub further : List ℕ → List ℕ
further ks = gather (λ k. 44 ∷ decimal k) ks

pub commas_cons : (k : ℕ) (ks : List ℕ) → commas (k ∷ ks) ≡ decimal k ++ further ks
commas_cons k ks = parted-more 44 (decimal k) (each decimal ks) ∙ ap (λ (l : List ℕ). decimal k ++ l) (gather-each (λ y. 44 ∷ y) decimal ks)

-- ---- the numbers in a part of a list
take_next : (s : List ℕ) (p m : ℕ) → p < length s → 0 < m → take m (drop p s) ≡ at s p ∷ take (m - 1) (drop (p + 1) s)
take_next s p zero l z = absurd (omega arith)
take_next s p (suc m) l z = let e : suc m - 1 ≡ m = omega arith in rw (e, add-one p, drop-cons s p 0 l)

pub commas-none : (s : List ℕ) (from n : ℕ) → n ≡ 0 → commas (take n (drop from s)) ≡ 45 ∷ []
commas-none s from n e = rw e

module _ (s : List ℕ) (from n : ℕ) (inside : from + n ≤ length s) where
  pub commas-first : 0 < n → commas (take n (drop from s)) ≡ decimal (at s from) ++ further (take (n - 1) (drop (from + 1) s))
  commas-first z = rw (take_next s from n (omega arith) z) (commas_cons (at s from) (take (n - 1) (drop (from + 1) s)))

  pub further_next : (k : ℕ) → k < n → further (take (n - k) (drop (from + k) s)) ≡ (44 ∷ decimal (at s (from + k))) ++ further (take (n - (k + 1)) (drop (from + (k + 1)) s))
  further_next k l =
      let e : n - k - 1 ≡ n - (k + 1) = omega arith in
      let q : from + k + 1 ≡ from + (k + 1) = omega arith in
      rw (take_next s (from + k) (n - k) (omega arith) (omega arith), e, q)

  pub further_none : (k : ℕ) → n ≤ k → further (take (n - k) (drop (from + k) s)) ≡ []
  further_none k l = let e : n - k ≡ 0 = omega arith in rw e
