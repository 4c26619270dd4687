-- Laws of marks: a pass one step further, on top of the marks that stood before it, and what a mark tells. Assumes nothing.
use mathlib.Core.Path.{◌≡◌, refl, sym, ap, ◌∙◌}
use Prim.Native.Nat.{ℕ, zero, suc, ◌+◌, ◌≤◌, ◌<◌}
use native.Mathlib.Omega.{arith}
use native.Mathlib.Numerals.{add-one}
use mathlib.Core.Bool.{Bool, true, false, not, ◌&&◌, ◌||◌, or-true, or-false}
use mathlib.Core.List.{List, [], ◌∷◌}
use lib.Dec.{eqb}
use lib.ListN.{length}
use lib.Seq.{get_or-set_same, get_or-set_other}
use borrow.Author.Tests.{eqb-true, eqb-false}
use Rattle.paper.specs.Lists.{at, one_if}
use Rattle.paper.proofs.Counts.{any_below}
use Rattle.words.specs.Marks.{MarksOf, is_marked, placed, marked}

-- ---- a pass over numbers, each marked at f where q passes; p says where marks stood before
module _ (p q : ℕ → Bool) (f : ℕ → ℕ) where
  pub pass_none : {n : ℕ} {m : List ℕ} → MarksOf p n m → MarksOf (λ a. p a || placed q f 0 a) n m
  pass_none h = record { tell = λ a l. h.tell a l ∙ ap one_if (sym (or-false (p a))) }

  pub pass_more : {n : ℕ} {m : List ℕ} (m' : List ℕ) (j : ℕ) {b : Bool} {i : ℕ} → n ≤ length m → m' ≡ marked m b i → b ≡ q j → i ≡ f j
      → MarksOf (λ a. p a || placed q f j a) n m → MarksOf (λ a. p a || placed q f (j + 1) a) n m'
  pass_more {n} {m} m' j long e eb ei h = record {
    tell = λ a l.
        rw (e, eb, ei)
        (by a l (q j) (eqb (f j) a) refl
        ∙ ap one_if (regroup (p a) (placed q f j a) (q j && eqb (f j) a))
        ∙ ap (λ (b : Bool). one_if (p a || b)) (sym (any_below (λ x. q x && eqb (f x) a) j))
        ∙ ap (λ (x : ℕ). one_if (p a || placed q f x a)) (sym (add-one j)));
  }
    where
      regroup : (x y z : Bool) → (x || y) || z ≡ x || (y || z)
      regroup true y z = refl
      regroup false y z = refl

      by : (a : ℕ) → a < n → (b c : Bool) → eqb (f j) a ≡ c → at (marked m b (f j)) a ≡ one_if ((p a || placed q f j a) || (b && c))
      by a l true true z =
          rw (eqb-true (f j) a z) (get_or-set_same m a 1 0 (omega arith) ∙ ap one_if (sym (or-true (p a || placed q f j a))))
      by a l true false z = get_or-set_other m (f j) a 1 0 (λ v. eqb-false (f j) a z (sym v)) ∙ h.tell a l ∙ ap one_if (sym (or-false (p a || placed q f j a)))
      by a l false c z = h.tell a l ∙ ap one_if (sym (or-false (p a || placed q f j a)))

  -- all are passed: r says the same
  pub pass_done : {n : ℕ} {m : List ℕ} (j k : ℕ) (r : ℕ → Bool) → MarksOf (λ a. p a || placed q f j a) n m → j ≡ k
      → ((a : ℕ) → a < n → p a || placed q f k a ≡ r a) → MarksOf r n m
  pass_done j k r h e v = record { tell = λ a l. h.tell a l ∙ ap one_if (ap (λ (x : ℕ). p a || placed q f x a) e ∙ v a l) }

-- ---- what a mark tells
pub unmarked : (b : Bool) → one_if b ≡ 0 → b ≡ false
unmarked true e = absurd (omega arith)
unmarked false e = refl

pub is-marked : (b : Bool) → (one_if b ≡ 0 → ⊥) → b ≡ true
is-marked true e = refl
is-marked false e = absurd (e refl)

-- asked whether there is a mark
pub mark_test : {p : ℕ → Bool} {n : ℕ} {m : List ℕ} → MarksOf p n m → (a : ℕ) → a < n → is_marked m a ≡ p a
mark_test {p} {n} {m} h a l = by (p a) (h.tell a l)
  where
    by : (b : Bool) → at m a ≡ one_if b → is_marked m a ≡ b
    by true e = rw e
    by false e = rw e

-- past the last place nothing is marked
pub none_past : (m : List ℕ) (a : ℕ) → length m ≤ a → is_marked m a ≡ false
none_past m a l = ap (λ (x : ℕ). not (eqb x 0)) (past m a l)
  where
    past : (m : List ℕ) (a : ℕ) → length m ≤ a → at m a ≡ 0
    past [] a l = refl
    past (x ∷ m) zero l = absurd (omega arith)
    past (x ∷ m) (suc a) l = past m a (omega arith)
