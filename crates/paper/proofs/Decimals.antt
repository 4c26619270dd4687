-- "in decimal": the digits of a number below 10^10 are its decimal notation. Assumes nothing.
use mathlib.Core.Path.{◌≡◌, refl, ap, ◌∙◌}
use Prim.Native.Nat.{ℕ, zero, suc, ◌+◌, ◌-◌, ◌*◌, ◌/◌, ◌%◌, ◌^◌, ◌≤◌, ◌<◌}
use native.Mathlib.Omega.{arith}
use mathlib.Core.Bool.{Bool, true, false, ◌&&◌, cond}
use mathlib.Core.List.{List, [], ◌∷◌, ◌++◌}
use lib.Dec.{ltb}
use lib.ListN.{length, length-append}
use borrow.Author.Tests.{ltb-true, ltb-false, le-leb}
use Rattle.paper.specs.Lists.{at, all, within}
use Rattle.paper.specs.Program.{digits, decimal}
use Rattle.paper.proofs.Bools.{and_both}
use Rattle.paper.proofs.Counts.{all_append}

-- the number that digits say, behind one that was read
abbrev pub read_from : ℕ → List ℕ → ℕ
read_from n [] = n
read_from n (c ∷ cs) = read_from (10 * n + (c - 48)) cs

-- a decimal notation of v: it reads as v, every byte is a digit, there is one at least, and a leading 0 only in "0"
pub record Notation (v : ℕ) (ds : List ℕ) : Type 0 where
  pub reads_back : read_from 0 ds ≡ v
  pub are-digits : all (within 48 57) ds ≡ true
  pub some_digit : 1 ≤ length ds
  pub no_leading : at ds 0 ≡ 48 → ds ≡ 48 ∷ []

read_append : (n : ℕ) (xs ys : List ℕ) → read_from n (xs ++ ys) ≡ read_from (read_from n xs) ys
read_append n [] ys = refl
read_append n (x ∷ xs) ys = read_append (10 * n + (x - 48)) xs ys

-- the digits before the last, and the last
abbrev front : ℕ → ℕ → Bool → List ℕ
front n v b = cond b [] (digits n (v / 10))

digits_are : (n v : ℕ) (b : Bool) → ltb v 10 ≡ b → digits (suc n) v ≡ front n v b ++ ((48 + v % 10) ∷ [])
unfolding digits
digits_are n v b e = rw e

reads : (n v : ℕ) → v < 10 ^ n → read_from 0 (digits n v) ≡ v
unfolding digits
reads zero v l = omega arith
reads (suc n) v l = by (ltb v 10) refl (reads n (v / 10) (omega arith))
  where
    last : (b : Bool) → read_from 0 (front n v b) ≡ v / 10 → read_from 0 (front n v b ++ ((48 + v % 10) ∷ [])) ≡ v
    last b h = read_append 0 (front n v b) ((48 + v % 10) ∷ []) ∙ (omega arith)

    by : (b : Bool) → ltb v 10 ≡ b → read_from 0 (digits n (v / 10)) ≡ v / 10 → read_from 0 (digits (suc n) v) ≡ v
    by true e h = rw (digits_are n v true e) (last true (omega (arith, ltb-true v 10 e)))
    by false e h = rw (digits_are n v false e) (last false h)

all_digits : (n v : ℕ) → all (within 48 57) (digits n v) ≡ true
unfolding digits
all_digits zero v = refl
all_digits (suc n) v = by (ltb v 10) refl (all_digits n (v / 10))
  where
    last : within 48 57 (48 + v % 10) && true ≡ true
    last = and_both _ _ (and_both _ _ (le-leb 48 (48 + v % 10) (omega arith)) (le-leb (48 + v % 10) 57 (omega arith))) refl

    by : (b : Bool) → ltb v 10 ≡ b → all (within 48 57) (digits n (v / 10)) ≡ true → all (within 48 57) (digits (suc n) v) ≡ true
    by true e h = rw (digits_are n v true e) last
    by false e h = rw (digits_are n v false e) (all_append (within 48 57) (digits n (v / 10)) ((48 + v % 10) ∷ []) ∙ and_both _ _ h last)

some-digits : (n v : ℕ) → 1 ≤ length (digits (suc n) v)
some-digits n v =
    omega (arith, ap length (digits_are n v (ltb v 10) refl), length-append (front n v (ltb v 10)) ((48 + v % 10) ∷ []))

at_front : (xs ys : List ℕ) → 48 < at xs 0 → 48 < at (xs ++ ys) 0
at_front [] ys h = absurd (omega arith)
at_front (x ∷ xs) ys h = h

-- the first digit of a number above 0 is not 0
leads : (n v : ℕ) → 0 < v → v < 10 ^ n → 48 < at (digits n v) 0
unfolding digits
leads zero v p l = absurd (omega arith)
leads (suc n) v p l = by (ltb v 10) refl (λ q. leads n (v / 10) q (omega arith))
  where
    by : (b : Bool) → ltb v 10 ≡ b → (0 < v / 10 → 48 < at (digits n (v / 10)) 0) → 48 < at (digits (suc n) v) 0
    by true e h = rw (digits_are n v true e) (omega (arith, ltb-true v 10 e))
    by false e h = rw (digits_are n v false e) (at_front (digits n (v / 10)) ((48 + v % 10) ∷ []) (h (omega (arith, ltb-false v 10 e))))

lead_alone : (v : ℕ) → v < 10 ^ 10 → at (decimal v) 0 ≡ 48 → decimal v ≡ 48 ∷ []
unfolding digits
lead_alone zero l h = refl
lead_alone (suc v) l h = absurd (omega (arith, leads 10 (suc v) (omega arith) l))

pub decimal-is : (v : ℕ) → v < 10 ^ 10 → Notation v (decimal v)
decimal-is v l = record { reads_back = reads 10 v l; are-digits = all_digits 10 v; some_digit = some-digits 9 v; no_leading = lead_alone v l }
