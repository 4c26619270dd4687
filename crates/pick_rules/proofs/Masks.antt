-- Masks of the ends by column: what they say of an end, and words of ends that can't be taken. Assumes nothing.
use mathlib.Core.Path.{◌≡◌, refl, sym, ap, ap₂, ◌∙◌}
use mathlib.Core.Bool.{Bool, true, false, not, ◌&&◌, ◌||◌}
use mathlib.Core.List.{List, [], ◌∷◌}
use Prim.Native.Nat.{ℕ, ◌+◌, ◌%◌, ◌^◌, ◌≤◌, ◌<◌}
use native.Mathlib.Nat.{mod-lt}
use native.Mathlib.Omega.{arith}
use lib.Bits.{bit_or}
use lib.Dec.{eqb, leb}
use lib.Pow.{pow_pos}
use borrow.Author.Tests.{eq-eqb, eqb-true, leb-true, leb-false, le-leb, lt-leb, not-true}
use Rattle.paper.specs.Lists.{at, has, below, any}
use Rattle.paper.proofs.Bits.{has_or, no_digit}
use Rattle.paper.proofs.Bools.{iff}
use Rattle.paper.proofs.Counts.{any-below-none}
use Rattle.paper.proofs.Digits.{has_mod, has-zero}
use Rattle.paper.proofs.Members.{any_none, below_in}
use Rattle.offers.specs.Sets.{Marks}
use Rattle.pick_bounds.specs.Net.{rule, meets, held, in_both, obeys}
use Rattle.pick_bounds.proofs.Sets.{meets-held}
use Rattle.pick_bounds.proofs.FourKinds.{cap_obeyed}
use Rattle.ends_masks.proofs.Numbers.{any-below-alike}
use Rattle.pick_rules.specs.Rules.{on_each, vacant, leads, BarredEnds}
use Rattle.pick_rules.proofs.Rows.{all_more, meets-zero}

-- ---- a word is 0 exactly if nothing is marked
pub marks_empty : {p : ℕ → Bool} {n w : ℕ} → Marks p n w → eqb w 0 ≡ not (any p (below n))
marks_empty {p} {n} {w} m =
    iff _ _
    (λ e. ap not (any-below-none p n (λ k l. sym (m.says k l) ∙ ap (λ (z : ℕ). has z k) (eqb-true w 0 e) ∙ has-zero k)))
    (λ e.
    let none : any p (below n) ≡ false = not-true (any p (below n)) e in
    eq-eqb w 0 (no_digit w n m.small (λ k l. m.says k l ∙ any_none p none (below_in n l))))

marks_fewer : {p : ℕ → Bool} {n w : ℕ} (k : ℕ) → k ≤ n → Marks p n w → Marks p k (w % 2 ^ k)
marks_fewer {p} {n} {w} k l m = record {
  small = mod-lt w (pow_pos k);
  says = λ j g. has_mod w k j g ∙ m.says j (omega arith);
}

pub leads-word : (column : List ℕ) {n x w : ℕ} (k : ℕ) → k < n → x ≡ at column k → Marks (λ j. eqb (at column j) x) n w → eqb (w % 2 ^ k) 0 ≡ leads column k
leads-word column k l e m = marks_empty (marks_fewer k (omega arith) m) ∙ ap (vacant column k) e

-- ---- ends that can't be taken
pub bars_none : (n : ℕ) {p : ℕ → Bool} → ((c : ℕ) → p c ≡ true) → BarredEnds n 0 p
bars_none n h = record { says = λ c. ap not (meets-zero n c) ∙ sym (h c) }

any_either : (p q : ℕ → Bool) (xs : List ℕ) → not (any (λ k. p k || q k) xs) ≡ not (any p xs) && not (any q xs)
any_either p q [] = refl
any_either p q (x ∷ xs) = by (p x) (q x) (any p xs) (any q xs) (any (λ k. p k || q k) xs) (any_either p q xs)
  where
    by : (a b c d e : Bool) → not e ≡ not c && not d → not ((a || b) || e) ≡ not (a || c) && not (b || d)
    by true b c d e h = refl
    by false true true d e h = refl
    by false true false d e h = refl
    by false false c d e h = h

pub bars_or : {n a b : ℕ} {p q : ℕ → Bool} → BarredEnds n a p → BarredEnds n b q → BarredEnds n (bit_or a b) (λ c. p c && q c)
unfolding meets
bars_or {n} {a} {b} f g = record {
  says = λ c.
      ap not
      (any-below-alike (in_both c (bit_or a b)) (λ k. in_both c a k || in_both c b k) n
      (λ k l. ap (λ (z : Bool). has c k && z) (has_or a b k) ∙ share (has c k) (has a k) (has b k)))
      ∙ any_either (in_both c a) (in_both c b) (below n)
      ∙ ap₂ (λ (x y : Bool). x && y) (f.says c) (g.says c);
}
  where
    share : (x y z : Bool) → x && (y || z) ≡ (x && y) || (x && z)
    share true y z = refl
    share false y z = refl

pub bars_more : {n a b : ℕ} (q : ℕ → ℕ → Bool) (j : ℕ) → BarredEnds n a (on_each q (below j)) → BarredEnds n b (q j) → BarredEnds n (bit_or a b) (on_each q (below (j + 1)))
bars_more q j f g = record { says = λ c. (bars_or f g).says c ∙ sym (all_more (λ i. q i c) j) }

pub bars_all : {n w j k : ℕ} (q : ℕ → ℕ → Bool) → j ≡ k → BarredEnds n w (on_each q (below j)) → BarredEnds n w (on_each q (below k))
bars_all q e h = rw (sym e) h

-- as a row
pub bars_row : {n w : ℕ} {p : ℕ → Bool} → BarredEnds n w p → (c : ℕ) → obeys n (rule w w 0 0) c ≡ p c
bars_row {n} {w} {p} h c = cap_obeyed n c w 0 ∙ by (held n c w) (meets n c w) (meets-held n c w) ∙ h.says c
  where
    by : (h : ℕ) (b : Bool) → b ≡ leb 1 h → leb h 0 ≡ not b
    by h true g = let z = leb-true 1 h (sym g) in lt-leb h 0 (omega arith)
    by h false g = let z = leb-false 1 h (sym g) in le-leb h 0 (omega arith)
