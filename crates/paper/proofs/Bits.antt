-- Words as sets of numbers: the digits of an or, of an and, of a power of two, and words that share a digit. Assumes nothing.
use mathlib.Core.Path.{◌≡◌, refl, sym, ap, ◌∙◌, subst}
use mathlib.Core.Bool.{Bool, true, false, not, ◌&&◌, ◌||◌}
use Prim.Native.Nat.{ℕ, zero, suc, ◌+◌, ◌-◌, ◌*◌, ◌/◌, ◌%◌, ◌^◌, ◌≤◌, ◌<◌, min, max}
use native.Mathlib.Nat.{one-mul, zero-mul, mod-lt, mod-eq_of_lt, div-eq_of_lt, zero-lt-suc, le_refl, lt_of_lt_of_le, lt_of_le_of_lt, pow-suc}
use native.Mathlib.Omega.{arith}
use native.Mathlib.Numerals.{one-add}
use native.Mathlib.Decide.{dec_lt}
use lib.Dec.{eqb}
use lib.Pow.{pow-lt, pow-add, pow_mono, shl_exact, shl-shr, mod-pow-add}
use lib.Bits.{and_le_l, bit_and, bit_or, and_shr, or_shr, and_step, or_step}
use borrow.Author.Tests.{eq-eqb, ne_eqb, eqb-true, not-true}
use Rattle.paper.specs.Lists.{has, any, below}
use Rattle.paper.proofs.Digits.{has_mod, has-zero, zero_of, in_digit}
use Rattle.paper.proofs.Bools.{never, and-true, and_both}
use Rattle.paper.proofs.Members.{any_in, in_below, below_in, any_none}

-- digit k of a word
abbrev bit : ℕ → ℕ → ℕ
bit x k = x / 2 ^ k % 2

-- a shifted one is the power
pub one_shl : (k w : ℕ) → k < w → (1 * 2 ^ k) % 2 ^ w ≡ 2 ^ k
one_shl k w h = shl_exact 1 k w (omega arith) (omega arith) ∙ one-mul (2 ^ k)

bit_lt : (x k : ℕ) → bit x k < 2
bit_lt x k = mod-lt (x / 2 ^ k) (zero-lt-suc 1)

bit_of_and : (x y k : ℕ) → bit (bit_and x y) k ≡ min (bit x k) (bit y k)
bit_of_and x y k = rw (and_shr, and_step) (omega (arith, bit_lt x k, bit_lt y k))

bit_of_or : (x y k : ℕ) → bit (bit_or x y) k ≡ max (bit x k) (bit y k)
bit_of_or x y k = rw (or_shr, or_step) (omega (arith, bit_lt x k, bit_lt y k))

-- one place more of a remainder
mod_more : (x e : ℕ) → x % 2 ^ suc e ≡ bit x e * 2 ^ e + x % 2 ^ e
mod_more x e = subst (λ (k : ℕ). x % 2 ^ k ≡ bit x e * 2 ^ e + x % 2 ^ e) (one-add e) (mod-pow-add x 1 e)

-- no digit below n: no remainder
no_bits : (z n : ℕ) → ((k : ℕ) → k < n → bit z k ≡ 0) → z % 2 ^ n ≡ 0
no_bits z zero h = omega arith
no_bits z (suc n) h = mod_more z n ∙ rw (h n (le_refl (suc n)), no_bits z n (λ k l. h k (omega arith)), zero-mul (2 ^ n))

-- a power has its own digit alone
pow_same : (k : ℕ) → bit (2 ^ k) k ≡ 1
pow_same k = ap (λ (z : ℕ). z % 2) (ap (λ (y : ℕ). y / 2 ^ k) (sym (one-mul (2 ^ k))) ∙ shl-shr 1 k)

pow_above : (k j : ℕ) → k < j → bit (2 ^ k) j ≡ 0
pow_above k j l = ap (λ (z : ℕ). z % 2) (div-eq_of_lt (pow-lt l))

pow_below : (k j : ℕ) → j < k → bit (2 ^ k) j ≡ 0
pow_below k j l =
    let d = k - suc j in
    let e : suc d + j ≡ k = omega arith in
    subst (λ (n : ℕ). bit (2 ^ n) j ≡ 0) e
    (ap (λ (y : ℕ). y / 2 ^ j % 2) (pow-add 2 (suc d) j) ∙ ap (λ (y : ℕ). y % 2) (shl-shr (2 ^ suc d) j) ∙ ap (λ (y : ℕ). y % 2) (pow-suc 2 d) ∙ (omega arith))

-- ---- as tests
max_bit : (x y : ℕ) → x < 2 → y < 2 → eqb (max x y) 1 ≡ eqb x 1 || eqb y 1
max_bit zero zero hx hy = refl
max_bit zero (suc zero) hx hy = refl
max_bit (suc zero) zero hx hy = refl
max_bit (suc zero) (suc zero) hx hy = refl
max_bit zero (suc (suc y)) hx hy = absurd (omega arith)
max_bit (suc zero) (suc (suc y)) hx hy = absurd (omega arith)
max_bit (suc (suc x)) y hx hy = absurd (omega arith)

min_bit : (x y : ℕ) → x < 2 → y < 2 → eqb (min x y) 1 ≡ eqb x 1 && eqb y 1
min_bit zero zero hx hy = refl
min_bit zero (suc zero) hx hy = refl
min_bit (suc zero) zero hx hy = refl
min_bit (suc zero) (suc zero) hx hy = refl
min_bit zero (suc (suc y)) hx hy = absurd (omega arith)
min_bit (suc zero) (suc (suc y)) hx hy = absurd (omega arith)
min_bit (suc (suc x)) y hx hy = absurd (omega arith)

pub has_or : (x y k : ℕ) → has (bit_or x y) k ≡ has x k || has y k
has_or x y k = rw (bit_of_or x y k) (max_bit (bit x k) (bit y k) (bit_lt x k) (bit_lt y k))

pub has-and : (x y k : ℕ) → has (bit_and x y) k ≡ has x k && has y k
has-and x y k = rw (bit_of_and x y k) (min_bit (bit x k) (bit y k) (bit_lt x k) (bit_lt y k))

pub has-high : (x n k : ℕ) → x < 2 ^ n → n ≤ k → has x k ≡ false
has-high x n k h l = rw (div-eq_of_lt (lt_of_lt_of_le h (pow_mono l)))

pub has-low : (x n k : ℕ) → x < 2 ^ n → has x k ≡ true → k < n
has-low x n k l h = elim (dec_lt k n) [ yes q ↦ q | no q ↦ never _ h (has-high x n k l (omega arith)) ]

pub has_pow : (n k : ℕ) → has (2 ^ n) k ≡ eqb k n
has_pow n k =
    elim (dec_lt k n) [
      | yes l ↦ rw (pow_below n k l, ne_eqb k n (omega arith))
      | no l ↦ elim (dec_lt n k) [
        | yes m ↦ rw (pow_above n k m, ne_eqb k n (omega arith))
        | no m ↦ let e : k ≡ n = omega arith in rw (e, pow_same n, eq-eqb n n refl)
      ]
    ]

-- a word with no digit set is 0
pub no_digit : (x n : ℕ) → x < 2 ^ n → ((k : ℕ) → k < n → has x k ≡ false) → x ≡ 0
no_digit x n l h = sym (mod-eq_of_lt l) ∙ no_bits x n (λ k q. zero_of (bit x k) (bit_lt x k) (h k q))

-- two words with the same digits are one
pub same_digits : (x y n : ℕ) → x < 2 ^ n → y < 2 ^ n → ((k : ℕ) → k < n → has x k ≡ has y k) → x ≡ y
same_digits x y n lx ly h = sym (mod-eq_of_lt lx) ∙ below_n n h ∙ mod-eq_of_lt ly
  where
    digit : (k : ℕ) → has x k ≡ has y k → bit x k ≡ bit y k
    digit k e = by (has x k) refl
      where
        by : (b : Bool) → has x k ≡ b → bit x k ≡ bit y k
        by true q = eqb-true (bit x k) 1 q ∙ sym (eqb-true (bit y k) 1 (sym e ∙ q))
        by false q = zero_of (bit x k) (bit_lt x k) q ∙ sym (zero_of (bit y k) (bit_lt y k) (sym e ∙ q))

    below_n : (n : ℕ) → ((k : ℕ) → k < n → has x k ≡ has y k) → x % 2 ^ n ≡ y % 2 ^ n
    below_n zero h = omega arith
    below_n (suc n) h = mod_more x n ∙ rw (digit n (h n (le_refl (suc n))), below_n n (λ k l. h k (omega arith))) (sym (mod_more y n))

-- there is a word with any digits
pub word_of : (q : ℕ → Bool) (n : ℕ) → (x : ℕ) × (x < 2 ^ n) × ((k : ℕ) → k < n → has x k ≡ q k)
word_of q zero = (0, omega arith, λ k l. absurd (omega arith))
word_of q (suc n) = by (q n) refl (word_of q n)
  where
    by : (b : Bool) → q n ≡ b → (x : ℕ) × (x < 2 ^ n) × ((k : ℕ) → k < n → has x k ≡ q k) → (x : ℕ) × (x < 2 ^ suc n) × ((k : ℕ) → k < suc n → has x k ≡ q k)
    by true e r =
        let x = r.0 + 2 ^ n in
        let fits : x < 2 ^ suc n = omega (arith, r.1, pow-suc 2 n) in
        let d = in_digit x n r.0 r.1 (mod-eq_of_lt fits) in (
          x,
          fits,
          λ k l. elim (dec_lt k n) [
            | yes u ↦ sym (has_mod x n k u) ∙ ap (λ z. has z k) d.1 ∙ r.2 k u
            | no u ↦ let z : k ≡ n = omega arith in rw z (d.0 ∙ sym e)
          ],
        )
    by false e r = (
      r.0,
      omega (arith, r.1, pow-suc 2 n),
      λ k l. elim (dec_lt k n) [
        | yes u ↦ r.2 k u
        | no u ↦ let z : k ≡ n = omega arith in rw z (has-high r.0 n n r.1 (le_refl n) ∙ sym e)
      ],
    )

-- ---- two words meet
pub meet_has : (x y n : ℕ) → x < 2 ^ n → not (eqb (bit_and x y) 0) ≡ true → (j : ℕ) × (j < n) × (has x j ≡ true) × (has y j ≡ true)
meet_has x y n l h = by (any (λ k. has x k && has y k) (below n)) refl
  where
    by : (b : Bool) → any (λ k. has x k && has y k) (below n) ≡ b → (j : ℕ) × (j < n) × (has x j ≡ true) × (has y j ≡ true)
    by true e = let r = any_in (λ k. has x k && has y k) (below n) e in let s = and-true (has x r.0) _ r.2 in (r.0, in_below n r.1, s.0, s.1)
    by false e =
        let z : bit_and x y ≡ 0 = no_digit (bit_and x y) n (lt_of_le_of_lt (and_le_l x y) l) (λ k q. has-and x y k ∙ any_none (λ k. has x k && has y k) e (below_in n q)) in
        never (eqb (bit_and x y) 0) (eq-eqb _ 0 z) (not-true _ h)

pub has_meet : (x y j : ℕ) → has x j ≡ true → has y j ≡ true → not (eqb (bit_and x y) 0) ≡ true
has_meet x y j p q = by (eqb (bit_and x y) 0) refl
  where
    by : (b : Bool) → eqb (bit_and x y) 0 ≡ b → not b ≡ true
    by false e = refl
    by true e =
        never (has (bit_and x y) j) (has-and x y j ∙ and_both _ _ p q) (ap (λ (z : ℕ). has z j) (eqb-true (bit_and x y) 0 e) ∙ has-zero j)
