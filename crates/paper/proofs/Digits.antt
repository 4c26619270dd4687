-- The digits of a number, as a set of ends: what `has` says of the numbers below a power of two. Assumes nothing.
use mathlib.Core.Path.{◌≡◌, refl, sym, ap, ◌∙◌, subst}
use Prim.Native.Nat.{ℕ, zero, suc, ◌+◌, ◌-◌, ◌*◌, ◌/◌, ◌%◌, ◌^◌, ◌<◌}
use native.Mathlib.Nat.{mod-lt, zero-lt-suc, zero-div}
use native.Mathlib.Omega.{arith}
use native.Mathlib.Numerals.{one-add}
use mathlib.Core.Bool.{true, false}
use lib.Dec.{eqb}
use borrow.Author.Tests.{eqb-true, eqb-false, eq-eqb, ne_eqb}
use lib.Pow.{pow_pos, mod-pow-add, field, mod-mod-pow}
use Rattle.paper.specs.Lists.{has}

two_pos : 0 < 2
two_pos = zero-lt-suc 1

split : (x k : ℕ) → x % 2 ^ suc k ≡ (x / 2 ^ k % 2) * 2 ^ k + x % 2 ^ k
split x k = rw (← one-add k) (mod-pow-add x 1 k)

-- digit j of n's k low digits
has_mod' : (n i j : ℕ) → n % 2 ^ (i + 1 + j) / 2 ^ j % 2 ≡ n / 2 ^ j % 2
has_mod' n i j = ap (λ (x : ℕ). x % 2) (field n (i + 1) j) ∙ mod-mod-pow (n / 2 ^ j) i 1

pub has_mod : (n k j : ℕ) → j < k → has (n % 2 ^ k) j ≡ has n j
has_mod n k j l =
    let e : k - suc j + 1 + j ≡ k = omega arith in
    ap (λ (x : ℕ). eqb x 1) (subst (λ (x : ℕ). n % 2 ^ x / 2 ^ j % 2 ≡ n / 2 ^ j % 2) e (has_mod' n (k - suc j) j))

-- x's low k digits are acc: with its digit k, they are acc or acc + 2 ^ k
pub digit_in : (x k acc : ℕ) → x % 2 ^ k ≡ acc → has x k ≡ true → x % 2 ^ suc k ≡ acc + 2 ^ k
digit_in x k acc e h = let d : x / 2 ^ k % 2 ≡ 1 = eqb-true _ 1 h in split x k ∙ rw (d, e) (omega arith)

pub zero_of : (d : ℕ) → d < 2 → eqb d 1 ≡ false → d ≡ 0
zero_of zero h e = refl
zero_of (suc zero) h e = absurd (eqb-false 1 1 e refl)
zero_of (suc (suc d)) h e = absurd (omega arith)

pub digit_out : (x k acc : ℕ) → x % 2 ^ k ≡ acc → has x k ≡ false → x % 2 ^ suc k ≡ acc
digit_out x k acc e h = let d : x / 2 ^ k % 2 ≡ 0 = zero_of _ (mod-lt (x / 2 ^ k) two_pos) h in split x k ∙ rw (d, e) (omega arith)

-- and back
apart : (d P m acc : ℕ) → d < 2 → m < P → acc < P → d * P + m ≡ acc + P → (d ≡ 1) × (m ≡ acc)
apart zero P m acc hd hm ha e = absurd (omega arith)
apart (suc zero) P m acc hd hm ha e = (refl, omega arith)
apart (suc (suc d)) P m acc hd hm ha e = absurd (omega arith)

apart0 : (d P m acc : ℕ) → d < 2 → m < P → acc < P → d * P + m ≡ acc → (d ≡ 0) × (m ≡ acc)
apart0 zero P m acc hd hm ha e = (refl, omega arith)
apart0 (suc zero) P m acc hd hm ha e = absurd (omega arith)
apart0 (suc (suc d)) P m acc hd hm ha e = absurd (omega arith)

module _ (x k acc : ℕ) (la : acc < 2 ^ k) where
  pub in_digit : x % 2 ^ suc k ≡ acc + 2 ^ k → (has x k ≡ true) × (x % 2 ^ k ≡ acc)
  in_digit e =
      let r = apart (x / 2 ^ k % 2) (2 ^ k) (x % 2 ^ k) acc (mod-lt (x / 2 ^ k) two_pos) (mod-lt x (pow_pos k)) la (sym (split x k) ∙ e) in
      (eq-eqb _ 1 r.0, r.1)

  pub out_digit : x % 2 ^ suc k ≡ acc → (has x k ≡ false) × (x % 2 ^ k ≡ acc)
  out_digit e =
      let r = apart0 (x / 2 ^ k % 2) (2 ^ k) (x % 2 ^ k) acc (mod-lt (x / 2 ^ k) two_pos) (mod-lt x (pow_pos k)) la (sym (split x k) ∙ e) in
      (ne_eqb (x / 2 ^ k % 2) 1 (λ o. omega (arith, r.0)), r.1)

-- 0 is the set of none
pub has-zero : (k : ℕ) → has 0 k ≡ false
has-zero k = rw (zero-div (2 ^ k))
