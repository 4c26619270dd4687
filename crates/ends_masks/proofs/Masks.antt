-- Words of the numbers that pass a test, columns of ends and words of makers: each goes one number further. Assumes nothing.
use mathlib.Core.Path.{◌≡◌, sym, ap, ap₂, ◌∙◌}
use mathlib.Core.Bool.{Bool, ◌&&◌, ◌||◌, cond}
use mathlib.Core.List.{List}
use Prim.Native.Nat.{ℕ, ◌+◌, ◌/◌, ◌%◌, ◌^◌, ◌≤◌, ◌<◌}
use native.Mathlib.Omega.{arith}
use native.Mathlib.Nat.{lt_of_lt_of_le}
use native.Mathlib.Numerals.{add-one}
use native.Mathlib.Decide.{dec_lt}
use lib.Bits.{bit_or}
use lib.Pow.{pow_mono}
use lib.ListN.{length, set}
use lib.Seq.{get_or-set_same, get_or-set_other}
use borrow.Author.Tests.{ne_eqb}
use Rattle.paper.specs.Lists.{at, has, below, any}
use Rattle.paper.specs.Table.{kind, owner, is_pin, target as targetOfEdge}
use Rattle.paper.proofs.Bits.{has_or}
use Rattle.paper.proofs.Counts.{any_below}
use Rattle.paper.proofs.Digits.{has-zero}
use Rattle.paper.specs.Limits.{limits}
use Rattle.offers.specs.Sets.{Marks}
use Rattle.offers.specs.Rows.{rows_in}
use Rattle.ends_masks.specs.Seating.{Columns, makes}

-- ---- words of the numbers that pass
-- few digits fit a word of 32
pub marks_fit : {p : ℕ → Bool} {n w : ℕ} → Marks p n w → n ≤ limits.most_ends → w < 4294967296
marks_fit {p} {n} {w} m l = lt_of_lt_of_le m.small (let h : n ≤ 32 = omega arith in pow_mono h)

-- ---- columns
pub column_more : (f : ℕ → ℕ) (l : List ℕ) (k v : ℕ) → k < length l → v ≡ f k → ((j : ℕ) → j < k → at l j ≡ f j)
    → (j : ℕ) → j < k + 1 → at (set l k v) j ≡ f j
column_more f l k v fits e h j less =
    elim (dec_lt j k) [
      | yes u ↦ get_or-set_other l k j v 0 (omega arith) ∙ h j u
      | no u ↦ let z : j ≡ k = omega arith in rw z (get_or-set_same l k v 0 fits ∙ e)
    ]

abbrev pub home_of : List ℕ → ℕ → ℕ
home_of t i = cond (is_pin (kind t i)) (owner t i) i

module _ {t m ends : List ℕ} where
  pub columns-none : (edge target home : List ℕ) → Columns t m ends edge target home 0
  columns-none edge target home = record {
    edges_are = λ k l. absurd (omega arith);
    targets-are = λ k l. absurd (omega arith);
    homes-are = λ k l. absurd (omega arith);
  }

  pub columns-more : {edge target home : List ℕ} {k e i h : ℕ} → Columns t m ends edge target home k
      → k < length edge → k < length target → k < length home → e ≡ ((rows_in m 0).entry (at ends k)).last % 256 → i ≡ targetOfEdge t e → h ≡ home_of t i
      → Columns t m ends (set edge k e) (set target k i) (set home k h) (k + 1)
  columns-more {edge} {target} {home} {k} {e} {i} {h} c le lt lh ee ei eh =
      let es = column_more (λ j. ((rows_in m 0).entry (at ends j)).last % 256) edge k e le ee c.edges_are in
      let ts =
      column_more (λ j. targetOfEdge t (at (set edge k e) j)) target k i lt (ei ∙ ap (targetOfEdge t) (sym (get_or-set_same edge k e 0 le)))
      (λ j u. c.targets-are j u ∙ ap (targetOfEdge t) (sym (get_or-set_other edge k j e 0 (omega arith)))) in
      record {
        edges_are = es;
        targets-are = ts;
        homes-are =
            column_more (λ j. home_of t (at (set target k i) j)) home k h lh (eh ∙ ap (home_of t) (sym (get_or-set_same target k i 0 lt)))
            (λ j u. c.homes-are j u ∙ ap (home_of t) (sym (get_or-set_other target k j i 0 (omega arith))));
      }

-- ---- the makers of taken ends
pub makes_none : (makers : List ℕ) (c y : ℕ) → has 0 y ≡ makes makers 0 c y
unfolding makes
makes_none makers c y = has-zero y

pub makes-more : (makers : List ℕ) (c k w v y : ℕ) → has w y ≡ makes makers k c y → has v y ≡ has c k && has (at makers k) y
    → has (bit_or w v) y ≡ makes makers (k + 1) c y
unfolding makes
makes-more makers c k w v y hw hv =
    has_or w v y
    ∙ ap₂ (λ (a b : Bool). a || b) hw hv
    ∙ sym (any_below (λ j. has c j && has (at makers j) y) k)
    ∙ ap (λ (m : ℕ). any (λ j. has c j && has (at makers j) y) (below m)) (sym (add-one k))

pub makes-not : (c k : ℕ) (b : Bool) (y : ℕ) → (c / 2 ^ k % 2 ≡ 1 → ⊥) → has 0 y ≡ has c k && b
makes-not c k b y ne = has-zero y ∙ sym (ap (λ (a : Bool). a && b) (ne_eqb (c / 2 ^ k % 2) 1 ne))
