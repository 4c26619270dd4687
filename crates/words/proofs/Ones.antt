-- What two words have in common, counted: the ones of `a & b` are the digits that both have. Assumes nothing.
use mathlib.Core.Path.{◌≡◌, refl, sym, ap, ◌∙◌}
use mathlib.Core.Logic.{⊎_elim}
use mathlib.Core.Bool.{Bool, true, false, not, ◌&&◌}
use Prim.Native.Nat.{ℕ, zero, suc, ◌+◌, ◌*◌, ◌/◌, ◌%◌, ◌^◌, ◌≤◌, ◌<◌}
use native.Mathlib.Nat.{mod-lt, mod-eq_of_lt, le_refl, lt_of_le_of_lt}
use native.Mathlib.Omega.{arith}
use lib.Dec.{eqb}
use lib.Pow.{pow_pos}
use lib.Bits.{bit_and, and_le_l}
use lib.Count.{ones, ones_cat, ones_step}
use borrow.Author.Tests.{eq-eqb, eqb-true, eqb-false, le-leb, lt-leb}
use Rattle.paper.specs.Lists.{has, below, count, any, one_if}
use Rattle.paper.proofs.Bools.{never, true_or_false}
use Rattle.paper.proofs.Counts.{count-below}
use Rattle.paper.proofs.Members.{any-count}
use Rattle.paper.proofs.Bits.{has-and}
use Rattle.paper.proofs.Digits.{digit_in, digit_out}

-- digit k stands in both
abbrev in_both : ℕ → ℕ → ℕ → Bool
in_both c d k = has c k && has d k

ones_low : (c d n : ℕ) → ones (bit_and c d % 2 ^ n) ≡ count (in_both c d) (below n)
unfolding ones
ones_low c d zero = let e : bit_and c d % 1 ≡ 0 = omega arith in rw e
ones_low c d (suc n) =
    rw (count-below (in_both c d) n) (by (in_both c d n) (has-and c d n) (ones_low c d n))
  where
    one : ones (bit_and c d % 2 ^ n + 2 ^ n) ≡ ones (bit_and c d % 2 ^ n) + 1
    one =
        let e : bit_and c d % 2 ^ n + 2 ^ n ≡ 1 * 2 ^ n + bit_and c d % 2 ^ n = omega arith in
        ap ones e ∙ ones_cat n 1 (bit_and c d % 2 ^ n) (mod-lt (bit_and c d) (pow_pos n)) ∙ (omega arith)

    by : (t : Bool) → has (bit_and c d) n ≡ t → ones (bit_and c d % 2 ^ n) ≡ count (in_both c d) (below n)
        → ones (bit_and c d % 2 ^ suc n) ≡ count (in_both c d) (below n) + one_if t
    by true h ih = ap ones (digit_in (bit_and c d) n _ refl h) ∙ one ∙ (omega arith)
    by false h ih = ap ones (digit_out (bit_and c d) n _ refl h) ∙ ih ∙ (omega arith)

pub ones_both : (n c d : ℕ) → c < 2 ^ n → ones (bit_and c d) ≡ count (λ k. has c k && has d k) (below n)
ones_both n c d l = sym (ap ones (mod-eq_of_lt (lt_of_le_of_lt (and_le_l c d) l))) ∙ ones_low c d n

ones-some : (n z : ℕ) → z ≤ n → (z ≡ 0 → ⊥) → 1 ≤ ones z
ones-some zero z l ne = absurd (ne (omega arith))
ones-some (suc n) z l ne =
    ⊎_elim (λ h. let e = eqb-true (z / 2) 0 h in let s = ones_step z in omega (arith, ne))
    (λ h. let s = ones_step z in let i = ones-some n (z / 2) (omega (arith, ne)) (λ e. never (eqb (z / 2) 0) (eq-eqb (z / 2) 0 e) h) in omega arith)
    (true_or_false (eqb (z / 2) 0))

ones_none : ones 0 ≡ 0
unfolding ones
ones_none = refl

pub some_both : (n c d : ℕ) → c < 2 ^ n → not (eqb (bit_and c d) 0) ≡ any (λ k. has c k && has d k) (below n)
some_both n c d l =
    let some = any-count (in_both c d) (below n) in
    let h = ones_both n c d l in
    ⊎_elim
    (λ z.
    let e = ap ones (eqb-true (bit_and c d) 0 z) ∙ ones_none in
    rw z (sym (some ∙ lt-leb 1 (count (in_both c d) (below n)) (omega arith))))
    (λ z.
    let g = ones-some (bit_and c d) (bit_and c d) (le_refl (bit_and c d)) (eqb-false (bit_and c d) 0 z) in
    rw z (sym (some ∙ le-leb 1 (count (in_both c d) (below n)) (omega arith))))
    (true_or_false (eqb (bit_and c d) 0))
