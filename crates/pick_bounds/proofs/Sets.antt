-- Sets as words: the digits of what the code computes, and counts of what two sets have in common, over any width. Assumes nothing.
use mathlib.Core.Path.{◌≡◌, refl, sym, ap, ◌∙◌}
use mathlib.Core.Logic.{⊎_elim}
use mathlib.Core.Bool.{Bool, true, false, not, ◌&&◌, ◌||◌}
use Prim.Native.Nat.{ℕ, zero, suc, ◌+◌, ◌-◌, ◌/◌, ◌%◌, ◌^◌, ◌≤◌, ◌<◌, min, max}
use native.Mathlib.Nat.{pow-suc, pow-succ', div-one, div-div-eq-div-mul, mod-lt, mod-eq_of_lt, mod_self, zero-lt-suc, div-eq_of_lt, lt_of_le_of_lt, zero-add}
use native.Mathlib.Omega.{arith}
use native.Mathlib.Decide.{dec_lt}
use lib.Dec.{eqb, leb}
use lib.Pow.{pow-lt, pow_pos}
use lib.Bits.{bit_and, bit_or, bit_xor, differ, and_shr, and_step, or_shr, or_step, xor_shr, xor_step, and_le_l, and_le_r, and_mask}
use lib.Count.{ones, count_trailing_zeros, under}
use borrow.Author.Tests.{leb-false}
use Rattle.paper.specs.Lists.{has, below, count, any, one_if}
use Rattle.paper.proofs.Bools.{never, and-true, and_both, or_left, or_right, true_or_false, false_if}
use Rattle.paper.proofs.Counts.{count-below, count_most, any-below-none}
use Rattle.paper.proofs.Members.{any-count, any_in, in_any, below_in, in_below}
use Rattle.paper.proofs.Digits.{has_mod, has-zero, digit_in, digit_out, in_digit}
use Rattle.paper.proofs.Bits.{has-high}
use Rattle.words.proofs.Ones.{ones_both, some_both}
use Rattle.pick_bounds.specs.Net.{in_both, held, meets}
use Rattle.pick_bounds.specs.Bounds.{Without}

-- ---- digits of words
digit_lt : (x k : ℕ) → x / 2 ^ k % 2 < 2
digit_lt x k = mod-lt (x / 2 ^ k) (zero-lt-suc 1)

-- what holds of 0 and 1 holds of digits
digits : (P : ℕ → ℕ → Type 0) → P 0 0 → P 0 1 → P 1 0 → P 1 1 → (a b : ℕ) → a < 2 → b < 2 → P a b
digits P p q r s zero zero l h = p
digits P p q r s zero (suc zero) l h = q
digits P p q r s (suc zero) zero l h = r
digits P p q r s (suc zero) (suc zero) l h = s
digits P p q r s zero (suc (suc b)) l h = absurd (omega arith)
digits P p q r s (suc zero) (suc (suc b)) l h = absurd (omega arith)
digits P p q r s (suc (suc a)) b l h = absurd (omega arith)

module _ (x y k : ℕ) where
  abbrev a : ℕ
  a = x / 2 ^ k % 2

  abbrev b : ℕ
  b = y / 2 ^ k % 2

  and_digit : bit_and x y / 2 ^ k % 2 ≡ min a b
  and_digit = rw (and_shr, and_step) (omega (arith, digit_lt x k, digit_lt y k))

  or_digit : bit_or x y / 2 ^ k % 2 ≡ max a b
  or_digit = rw (or_shr, or_step) (omega (arith, digit_lt x k, digit_lt y k))

  xor_digit : bit_xor x y / 2 ^ k % 2 ≡ differ a b
  xor_digit =
      let l : differ a b < 2 = digits (λ a b. differ a b < 2) (omega arith) (omega arith) (omega arith) (omega arith) a b (digit_lt x k) (digit_lt y k) in
      rw (xor_shr, xor_step) (omega arith)

  pub has-and : has (bit_and x y) k ≡ has x k && has y k
  has-and =
      ap (λ (d : ℕ). eqb d 1) and_digit
      ∙ digits (λ a b. eqb (min a b) 1 ≡ eqb a 1 && eqb b 1) refl refl refl refl a b (digit_lt x k) (digit_lt y k)

  pub has_or : has (bit_or x y) k ≡ has x k || has y k
  has_or =
      ap (λ (d : ℕ). eqb d 1) or_digit
      ∙ digits (λ a b. eqb (max a b) 1 ≡ eqb a 1 || eqb b 1) refl refl refl refl a b (digit_lt x k) (digit_lt y k)

pub has_without : (c d : ℕ) → Without c d (bit_xor c (bit_and c d))
has_without c d k =
    ap (λ (e : ℕ). eqb e 1) (xor_digit c (bit_and c d) k ∙ ap (differ (c / 2 ^ k % 2)) (and_digit c d k))
    ∙ digits (λ a b. eqb (differ a (min a b)) 1 ≡ eqb a 1 && not (eqb b 1)) refl refl refl refl (c / 2 ^ k % 2) (d / 2 ^ k % 2) (digit_lt c k) (digit_lt d k)

-- a shifted one
-- a power is the set of one end
pub has_power : (k : ℕ) → has (2 ^ k) k ≡ true
has_power k =
    (in_digit (2 ^ k) k 0 (pow_pos k) (mod-eq_of_lt (pow-lt (omega arith)) ∙ sym (zero-add (2 ^ k)))).0

pub has_power_other : (k j : ℕ) → has (2 ^ k) j ≡ true → j ≡ k
has_power_other k j h =
    elim (dec_lt j k) [
      | yes l ↦ never (has (2 ^ k) j) h (sym (has_mod (2 ^ k) k j l) ∙ ap (λ (z : ℕ). has z j) (mod_self (2 ^ k)) ∙ has-zero j)
      | no l ↦
          elim (dec_lt k j) [
            | yes g ↦ never (has (2 ^ k) j) h (ap (λ (z : ℕ). eqb (z % 2) 1) (div-eq_of_lt (pow-lt g)))
            | no g ↦ omega arith
          ]
    ]

-- no end is past the width
-- all ends below m
pub has_all : (m x k : ℕ) → x < 2 ^ m → has x k ≡ true → has (2 ^ m - 1) k ≡ true
has_all m x k l h =
    (and-true (has x k) _ (sym (has-and x (2 ^ m - 1) k) ∙ ap (λ (z : ℕ). has z k) (and_mask x m ∙ mod-eq_of_lt l) ∙ h)).1

-- ---- counts below n
module _ (p q : ℕ → Bool) where
  pub count-part : (n : ℕ) → ((k : ℕ) → k < n → p k ≡ true → q k ≡ true) → count p (below n) ≤ count q (below n)
  count-part zero h = omega arith
  count-part (suc n) h =
      rw (count-below p n, count-below q n) (by (p n) (q n) (h n (omega arith)) (count-part n (λ k l. h k (omega arith))))
    where
      by : (a b : Bool) → (a ≡ true → b ≡ true) → count p (below n) ≤ count q (below n) → count p (below n) + one_if a ≤ count q (below n) + one_if b
      by true true f l = omega arith
      by true false f l = never false (f refl) refl
      by false true f l = omega arith
      by false false f l = omega arith

  -- a part that is as many is all
  pub count-full : (n : ℕ) → ((k : ℕ) → k < n → p k ≡ true → q k ≡ true) → count q (below n) ≤ count p (below n)
      → (k : ℕ) → k < n → q k ≡ true → p k ≡ true
  count-full zero h l k g e = absurd (omega arith)
  count-full (suc n) h l k g e =
      let part = count-part n (λ j i. h j (omega arith)) in
      let more = rw (count-below p n, count-below q n) at l in
      elim (dec_lt k n) [
        | yes i ↦ count-full n (λ j i. h j (omega arith)) (less (p n) (q n) (h n (omega arith)) more) k i e
        | no i ↦ let z : k ≡ n = omega arith in rw z (last (p n) (q n) (rw z at e) part more)
      ]
    where
      less : (a b : Bool) → (a ≡ true → b ≡ true) → count q (below n) + one_if b ≤ count p (below n) + one_if a → count q (below n) ≤ count p (below n)
      less true true f l = omega arith
      less true false f l = never false (f refl) refl
      less false true f l = omega arith
      less false false f l = omega arith

      last : (a b : Bool) → b ≡ true → count p (below n) ≤ count q (below n) → count q (below n) + one_if b ≤ count p (below n) + one_if a → a ≡ true
      last true b e g l = refl
      last false true e g l = absurd (omega arith)
      last false false e g l = never false e refl

-- ---- counts of tests that cover others, that exclude each other, or that one number passes
count_cover : (p q r : ℕ → Bool) (n : ℕ) → ((k : ℕ) → p k ≡ true → q k || r k ≡ true) → count p (below n) ≤ count q (below n) + count r (below n)
count_cover p q r zero h = omega arith
count_cover p q r (suc n) h =
    rw (count-below p n, count-below q n, count-below r n) (by (p n) (q n) (r n) (h n) (count_cover p q r n h))
  where
    by : (a b c : Bool) → (a ≡ true → b || c ≡ true) → count p (below n) ≤ count q (below n) + count r (below n)
        → count p (below n) + one_if a ≤ (count q (below n) + one_if b) + (count r (below n) + one_if c)
    by true true c f l = omega arith
    by true false true f l = omega arith
    by true false false f l = never false (f refl) refl
    by false b c f l = omega arith

-- tests that no number passes both
pub count-apart : (p q r : ℕ → Bool) (n : ℕ) → ((k : ℕ) → k < n → q k ≡ true → (p k ≡ true) × (r k ≡ false)) → ((k : ℕ) → k < n → r k ≡ true → p k ≡ true)
    → count q (below n) + count r (below n) ≤ count p (below n)
count-apart p q r zero h i = omega arith
count-apart p q r (suc n) h i =
    rw (count-below p n, count-below q n, count-below r n)
    (by (p n) (q n) (r n) (h n (omega arith)) (i n (omega arith)) (count-apart p q r n (λ k l. h k (omega arith)) (λ k l. i k (omega arith))))
  where
    by : (a b c : Bool) → (b ≡ true → (a ≡ true) × (c ≡ false)) → (c ≡ true → a ≡ true) → count q (below n) + count r (below n) ≤ count p (below n)
        → (count q (below n) + one_if b) + (count r (below n) + one_if c) ≤ count p (below n) + one_if a
    by true true true f g l = never true refl (f refl).1
    by true true false f g l = omega arith
    by true false true f g l = omega arith
    by true false false f g l = omega arith
    by false true c f g l = never false (f refl).0 refl
    by false false true f g l = never false (g refl) refl
    by false false false f g l = omega arith

-- a test that one number at most passes
count-one : (p : ℕ → Bool) (k : ℕ) → ((j : ℕ) → p j ≡ true → j ≡ k) → (n : ℕ) → (count p (below n) ≤ 1) × (n ≤ k → count p (below n) ≡ 0)
count-one p k h zero = (omega arith, λ l. refl)
count-one p k h (suc n) = rw (count-below p n) (by (p n) (h n) (count-one p k h n).0 (count-one p k h n).1)
  where
    by : (a : Bool) → (a ≡ true → n ≡ k) → count p (below n) ≤ 1 → (n ≤ k → count p (below n) ≡ 0)
        → (count p (below n) + one_if a ≤ 1) × (suc n ≤ k → count p (below n) + one_if a ≡ 0)
    by true f l z = let e = f refl in (omega (arith, z (omega arith)), λ i. absurd (omega arith))
    by false f l z = (omega arith, λ i. omega (arith, z (omega arith)))

-- ---- what two sets have in common
module _ (n c d : ℕ) where
  pub meets-held : meets n c d ≡ leb 1 (held n c d)
  unfolding meets held
  meets-held = any-count (in_both c d) (below n)

  pub meets_at : (k : ℕ) → k < n → has c k ≡ true → has d k ≡ true → meets n c d ≡ true
  unfolding meets
  meets_at k l p q = in_any (in_both c d) (below_in n l) (and_both (has c k) (has d k) p q)

  pub meets-none : meets n c d ≡ false → (k : ℕ) → k < n → has c k ≡ true → has d k ≡ false
  meets-none h k l p = false_if (has d k) (λ q. never (meets n c d) (meets_at k l p q) h)

  pub held_most : held n c d ≤ n
  unfolding held
  held_most = count_most (in_both c d) n

module _ (n a b d : ℕ) (part : (k : ℕ) → k < n → has a k ≡ true → has b k ≡ true) where
  both : (k : ℕ) → k < n → in_both a d k ≡ true → in_both b d k ≡ true
  both k l e = let r = and-true (has a k) (has d k) e in and_both (has b k) (has d k) (part k l r.0) r.1

  pub held-part : held n a d ≤ held n b d
  unfolding held
  held-part = count-part (in_both a d) (in_both b d) n both

  pub held-full : held n b d ≤ held n a d → (k : ℕ) → k < n → has b k ≡ true → has d k ≡ true → has a k ≡ true
  unfolding held
  held-full h k l p q =
      (and-true (has a k) (has d k) (count-full (in_both a d) (in_both b d) n both h k l (and_both (has b k) (has d k) p q))).0

  pub meets-part : meets n a d ≡ true → meets n b d ≡ true
  unfolding meets
  meets-part h =
      let r = any_in (in_both a d) (below n) h in
      in_any (in_both b d) r.1 (both r.0 (in_below n r.1) r.2)

-- a set of m ends has no more in common with another, over a larger width
pub held_wider : (x d m r : ℕ) → x < 2 ^ m → held (m + r) x d ≡ held m x d
unfolding held
held_wider x d m zero l = let e : m + 0 ≡ m = omega arith in rw e
held_wider x d m (suc r) l =
    let e : m + suc r ≡ suc (m + r) = omega arith in
    let f : in_both x d (m + r) ≡ false = rw (has-high x m (m + r) l (omega arith)) in
    rw (e, count-below (in_both x d) (m + r), f) (let h : count (in_both x d) (below (m + r)) ≡ count (in_both x d) (below m) = held_wider x d m r l in omega arith)

-- ---- the ones of a word
pub held_word : (n c d : ℕ) → c < 2 ^ n → ones (bit_and c d) ≡ held n c d
unfolding held
held_word n c d l = ones_both n c d l

pub meets_word : (n c d : ℕ) → c < 2 ^ n → not (eqb (bit_and c d) 0) ≡ meets n c d
unfolding meets
meets_word n c d l = some_both n c d l

-- a set within another is what the two have in common
pub digits_same : (n c d : ℕ) → c < 2 ^ n → ((k : ℕ) → k < n → has c k ≡ true → has d k ≡ true) → bit_and c d ≡ c
digits_same n c d l h = sym (mod-eq_of_lt (lt_of_le_of_lt (and_le_l c d) l)) ∙ by n h ∙ mod-eq_of_lt l
  where
    by : (m : ℕ) → ((k : ℕ) → k < m → has c k ≡ true → has d k ≡ true) → bit_and c d % 2 ^ m ≡ c % 2 ^ m
    by zero f = omega arith
    by (suc m) f =
        let e = by m (λ k i. f k (omega arith)) in
        ⊎_elim (λ i. digit_in (bit_and c d) m _ e (has-and c d m ∙ and_both (has c m) (has d m) i (f m (omega arith) i)) ∙ sym (digit_in c m _ refl i))
        (λ i. digit_out (bit_and c d) m _ e (has-and c d m ∙ rw i) ∙ sym (digit_out c m _ refl i)) (true_or_false (has c m))

-- a set and one end
pub apart_power : (n x k : ℕ) → has x k ≡ false → meets n x (2 ^ k) ≡ false
unfolding meets
apart_power n x k h =
    false_if (any (in_both x (2 ^ k)) (below n))
    (λ e.
    let r = any_in (in_both x (2 ^ k)) (below n) e in
    let q = and-true (has x r.0) (has (2 ^ k) r.0) r.2 in
    never (has x k) (ap (has x) (sym (has_power_other k r.0 q.1)) ∙ q.0) h)

pub meets-one : (n x k : ℕ) → k < n → meets n x (2 ^ k) ≡ has x k
meets-one n x k l =
    ⊎_elim (λ h. meets_at n x (2 ^ k) k l h (has_power k) ∙ sym h) (λ h. apart_power n x k h ∙ sym h) (true_or_false (has x k))

-- ---- a set beside words of 32 digits
module _ (x : ℕ) where
  pub meets-zero : meets 32 x 0 ≡ false
  unfolding meets
  meets-zero = any-below-none (in_both x 0) 32 (λ k l. rw (has-zero k) (by (has x k)))
    where
      by : (a : Bool) → a && false ≡ false
      by true = refl
      by false = refl

  pub held_none : (d : ℕ) → meets 32 x d ≡ false → held 32 x d ≡ 0
  held_none d h = omega (arith, leb-false 1 (held 32 x d) (sym (meets-held 32 x d) ∙ h))

  pub none-held : (d : ℕ) → held 32 x d ≤ 0 → meets 32 x d ≡ false
  none-held d h = meets-held 32 x d ∙ ap (leb 1) (let z : held 32 x d ≡ 0 = omega arith in z)

  pub cover : (c a b : ℕ) → ((k : ℕ) → has c k ≡ true → has a k || has b k ≡ true) → held 32 x c ≤ held 32 x a + held 32 x b
  unfolding held
  cover c a b h = count_cover (in_both x c) (in_both x a) (in_both x b) 32 (λ k e.
      let q = and-true (has x k) (has c k) e in
      by (has x k) (has a k) (has b k) q.0 (h k q.1))
    where
      by : (u v w : Bool) → u ≡ true → v || w ≡ true → u && v || u && w ≡ true
      by true v w e f = f
      by false v w e f = never false e refl

  pub held_power : (k : ℕ) → held 32 x (2 ^ k) ≤ 1
  unfolding held
  held_power k = (count-one (in_both x (2 ^ k)) k (λ j e. has_power_other k j (and-true (has x j) (has (2 ^ k) j) e).1) 32).0

  pub meets_or : (a b : ℕ) → meets 32 x a ≡ false → meets 32 x b ≡ false → meets 32 x (bit_or a b) ≡ false
  meets_or a b p q =
      none-held (bit_or a b) (omega (arith, cover (bit_or a b) a b (λ k e. sym (has_or a b k) ∙ e), held_none a p, held_none b q))

module _ (x a b : ℕ) (apart : meets 32 a b ≡ false) where
  pub held_both : held 32 x a + held 32 x b ≤ held 32 x (bit_or a b)
  unfolding held
  held_both =
      count-apart (in_both x (bit_or a b)) (in_both x a) (in_both x b) 32
      (λ k l e.
      let q = and-true (has x k) (has a k) e in
      (and_both (has x k) (has (bit_or a b) k) q.0 (has_or a b k ∙ or_left (has a k) (has b k) q.1), rw (meets-none 32 a b apart k l q.1) (by (has x k))))
      (λ k l e.
      let q = and-true (has x k) (has b k) e in
      and_both (has x k) (has (bit_or a b) k) q.0 (has_or a b k ∙ or_right (has a k) (has b k) q.1))
    where
      by : (c : Bool) → c && false ≡ false
      by true = refl
      by false = refl

-- the first end of a set
half_pos : (q : ℕ) → 0 < q → q % 2 ≡ 0 → 0 < q / 2
half_pos q h e = omega arith

first_digit : (d q : ℕ) → 1 ≤ q → q < 2 ^ d → q / 2 ^ count_trailing_zeros d q % 2 ≡ 1
unfolding count_trailing_zeros
first_digit zero q h k = absurd (omega arith)
first_digit (suc d) q h k =
    by (q % 2) refl (λ (e : q % 2 ≡ 0). first_digit d (q / 2) (half_pos q h e) (let z = rw (pow-suc 2 d) at k in omega arith))
  where
    by : (r : ℕ) → q % 2 ≡ r → (q % 2 ≡ 0 → q / 2 / 2 ^ count_trailing_zeros d (q / 2) % 2 ≡ 1) → q / 2 ^ under r (count_trailing_zeros d (q / 2)) % 2 ≡ 1
    by zero e ih =
        let t = count_trailing_zeros d (q / 2) in
        ap (λ (x : ℕ). x % 2) (ap (λ (x : ℕ). q / x) (pow-succ' 2 t) ∙ sym (div-div-eq-div-mul q 2 (2 ^ t))) ∙ ih e
    by (suc r) e ih = ap (λ (x : ℕ). x % 2) (div-one q) ∙ (omega arith)

pub first-has : (d q : ℕ) → 1 ≤ q → q < 2 ^ d → has q (count_trailing_zeros d q) ≡ true
first-has d q h k = ap (λ (x : ℕ). eqb x 1) (first_digit d q h k)

pub first-inside : (d q : ℕ) → 1 ≤ q → q < 2 ^ d → count_trailing_zeros d q < d
first-inside d q h k =
    elim (dec_lt (count_trailing_zeros d q) d) [
      | yes l ↦ l
      | no l ↦ never (has q (count_trailing_zeros d q)) (first-has d q h k) (has-high q d (count_trailing_zeros d q) k (omega arith))
    ]

-- a part that lacks an end is a smaller number
pub less_part : (n c r k : ℕ) → r < 2 ^ n → ((j : ℕ) → j < n → has r j ≡ true → has c j ≡ true) → has c k ≡ true → has r k ≡ false → r < c
less_part n c r k l part i o =
    let most : r ≤ c = rw (sym (digits_same n r c l part)) (and_le_r r c) in
    elim (dec_lt r c) [
      | yes h ↦ h
      | no h ↦ let z : c ≡ r = omega arith in never (has c k) i (ap (λ (x : ℕ). has x k) z ∙ o)
    ]

-- what is left of a set without one of its ends
pub less_left : (c k r : ℕ) → r < 2 ^ 32 → has c k ≡ true → Without c (2 ^ k) r → r < c
less_left c k r m h w =
    less_part 32 c r k m (λ j i e. (and-true (has c j) (not (has (2 ^ k) j)) (sym (w j) ∙ e)).0) h
    (w k ∙ rw (h, has_power k))

-- a set that is one end
pub one-held : (c k : ℕ) → c ≡ 2 ^ k → held 32 c c ≤ 1
one-held c k e = rw (ap (held 32 c) e) (held_power c k)

pub none_at_all : (c : ℕ) → c ≡ 0 → held 32 c c ≤ 1
none_at_all c e = omega (arith, ap (held 32 c) e, held_none c 0 (meets-zero c))

-- what two sets have in common is as much as the set of it has
pub held_itself : (c d : ℕ) → held 32 c d ≤ held 32 (bit_and c d) (bit_and c d)
unfolding held
held_itself c d = count-part (in_both c d) (in_both (bit_and c d) (bit_and c d)) 32 (λ k l e. let h = has-and c d k ∙ e in and_both (has (bit_and c d) k) (has (bit_and c d) k) h h)
