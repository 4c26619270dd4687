-- What masks of ends and words of rows say: rules 1 and 2 by words of makers and foes. Assumes nothing.
use mathlib.Core.Path.{◌≡◌, ap, ap₂, ◌∙◌}
use mathlib.Core.Logic.{⊎_elim}
use mathlib.Core.Bool.{Bool, true, false, not, ◌&&◌, and_comm}
use mathlib.Core.List.{List}
use mathlib.Core.Option.{none, some}
use Prim.Native.Nat.{ℕ, ◌^◌, ◌<◌}
use lib.Dec.{eqb}
use lib.Bits.{bit_and}
use Rattle.paper.specs.Lists.{at, has, below, any, ◌⇒◌}
use Rattle.paper.specs.Table.{nodes, kind, is_fork}
use Rattle.paper.proofs.Bits.{meet_has, has_meet}
use Rattle.paper.proofs.Bools.{never, and-true, and_both, or-true, false_if}
use Rattle.paper.proofs.Lists.{lowest-none, lowest-some}
use Rattle.paper.proofs.Members.{any_in, in_any, below_in, in_below}
use Rattle.words.proofs.Ones.{some_both}
use Rattle.offers.specs.Sets.{Marks, words_clash}
use Rattle.ends_masks.specs.Seating.{rival, rivalled, first_rivalled, siblings, makes, kept, passed, forks}
use Rattle.ends_masks.proofs.Numbers.{any-below-alike, all-below-alike, lowest-alike}
use Rattle.choice_judge.specs.Judging.{kept_in, passed_in, forks_in}

-- ---- a mask and a choice
module _ {p : ℕ → Bool} {n w : ℕ} (c : ℕ) (m : Marks p n w) where
  met : not (eqb (bit_and w c) 0) ≡ any (λ k. has c k && p k) (below n)
  met =
      some_both n w c m.small
      ∙ any-below-alike (λ k. has w k && has c k) (λ k. has c k && p k) n (λ k l. ap (λ (b : Bool). b && has c k) (m.says k l) ∙ and_comm (p k) (has c k))

-- ---- ends that are taken
pub rivalled_mask : (foes makers : List ℕ) (n c k w : ℕ) → Marks (rival foes makers k) n w → not (eqb (bit_and w c) 0) ≡ rivalled foes makers n c k
unfolding rivalled
rivalled_mask foes makers n c k w m = met c m

-- ---- forks
-- rule 2 by the word of all makers is rule 2
module _ (node parents makers : List ℕ) (rows n c w : ℕ) (h : (y : ℕ) → has w y ≡ makes makers n c y) where
  kept-rows : (z : ℕ) → kept_in node parents rows w z ≡ kept node parents makers rows n c z
  unfolding kept_in kept
  kept-rows z =
      ap₂ (λ (a b : Bool). a ⇒ b)
      (any-below-alike (λ y. siblings node parents y z && has w y) (λ y. siblings node parents y z && makes makers n c y) rows
      (λ y l. ap (λ (b : Bool). siblings node parents y z && b) (h y))) (h z)

  passed-rows : (i : ℕ) → passed_in node parents rows w i ≡ passed node parents makers rows n c i
  unfolding passed_in passed
  passed-rows i =
      all-below-alike (λ z. eqb (at node z) i ⇒ kept_in node parents rows w z) (λ z. eqb (at node z) i ⇒ kept node parents makers rows n c z) rows
      (λ z l. ap (λ (b : Bool). eqb (at node z) i ⇒ b) (kept-rows z))

  pub forks-rows : (t : List ℕ) → forks_in node parents rows w t ≡ forks node parents makers rows n c t
  unfolding forks_in forks
  forks-rows t =
      lowest-alike (λ i. is_fork (kind t i) && not (passed_in node parents rows w i)) (λ i. is_fork (kind t i) && not (passed node parents makers rows n c i)) (nodes t)
      (λ i l. ap (λ (b : Bool). is_fork (kind t i) && not b) (passed-rows i))

-- ---- the lowest place
module _ (foes makers : List ℕ) (n c : ℕ) where
  pub apart-at : (k : ℕ) → ((j : ℕ) → j < k → has c j && rivalled foes makers n c j ≡ false) → has c k && rivalled foes makers n c k ≡ true
      → k < n → first_rivalled foes makers n c ≡ some k
  unfolding first_rivalled
  apart-at k h e l = lowest-some (λ k. has c k && rivalled foes makers n c k) n k h e l

  pub apart_nowhere : ((j : ℕ) → j < n → has c j && rivalled foes makers n c j ≡ false) → first_rivalled foes makers n c ≡ none
  unfolding first_rivalled
  apart_nowhere h = lowest-none (λ k. has c k && rivalled foes makers n c k) n h

-- where the word f of the foes of taken ends and the word w of their makers have nothing in common, none competes
pub apart_by_words : (foes makers : List ℕ) (n c f w : ℕ) → ((y : ℕ) → has f y ≡ makes foes n c y) → ((y : ℕ) → has w y ≡ makes makers n c y)
    → ((k : ℕ) → k < n → at foes k < 2 ^ 64) → bit_and f w ≡ 0 → first_rivalled foes makers n c ≡ none
unfolding makes rivalled
apart_by_words foes makers n c f w hf hw small e =
    apart_nowhere foes makers n c (λ j l. false_if (has c j && rivalled foes makers n c j) (λ q.
    let a = and-true (has c j) (rivalled foes makers n c j) q in
    let r = any_in (λ k. has c k && rival foes makers j k) (below n) a.1 in
    let b = and-true (has c r.0) (rival foes makers j r.0) r.2 in
    let m = and-true (not (eqb r.0 j)) (words_clash (at foes j) (at makers j) (at foes r.0) (at makers r.0)) b.1 in
    ⊎_elim (λ z. hit j r.0 l (in_below n r.1) a.0 b.0 z) (λ z. hit r.0 j (in_below n r.1) l b.0 a.0 z)
    (or-true (not (eqb (bit_and (at foes j) (at makers r.0)) 0)) (not (eqb (bit_and (at foes r.0) (at makers j)) 0)) m.1)))
  where
    -- a foe of the taken end j is a maker of the taken end k
    hit : (j k : ℕ) → j < n → k < n → has c j ≡ true → has c k ≡ true → not (eqb (bit_and (at foes j) (at makers k)) 0) ≡ true → ⊥
    hit j k l g p q z =
        let m = meet_has (at foes j) (at makers k) 64 (small j l) z in
        let y = m.0 in
        let x = hf y ∙ in_any (λ k. has c k && has (at foes k) y) (below_in n l) (and_both (has c j) (has (at foes j) y) p m.2) in
        let v = hw y ∙ in_any (λ k. has c k && has (at makers k) y) (below_in n g) (and_both (has c k) (has (at makers k) y) q m.3) in
        never (not (eqb (bit_and f w) 0)) (has_meet f w y x v) (ap (λ (d : ℕ). not (eqb d 0)) e)
