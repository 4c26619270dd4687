-- Rule 2 by a word for each node: a row is left out if it shares an offer with what the taken rows of its node were made from. Assumes nothing.
use mathlib.Core.Path.{◌≡◌, refl, sym, ap, ap₂, ◌∙◌}
use mathlib.Core.Logic.{⊎_elim}
use mathlib.Core.Bool.{Bool, true, false, not, ◌&&◌, ◌||◌}
use mathlib.Core.Bool.{or-false}
use mathlib.Core.List.{List, [], ◌∷◌}
use Prim.Native.Nat.{ℕ, ◌+◌, ◌^◌, ◌≤◌, ◌<◌}
use native.Mathlib.Omega.{arith}
use native.Mathlib.Numerals.{add-one}
use lib.Bits.{bit_and, bit_or, and_comm}
use lib.Dec.{eqb, ltb}
use lib.ListN.{length, set, length-set}
use lib.Seq.{get_or-set_same, get_or-set_other}
use borrow.Author.Tests.{eq-eqb, ne_eqb, eqb-true, eqb-false, lt-ltb, le-ltb}
use Rattle.paper.specs.Lists.{at, has, below, all, any, ◌⇒◌}
use Rattle.paper.specs.Table.{nodes, kind, is_fork}
use Rattle.paper.proofs.Bits.{has_or, meet_has, has_meet}
use Rattle.paper.proofs.Bools.{and-true, and_both, and_never, true_or_false, iff}
use Rattle.paper.proofs.Counts.{any_below, any-and}
use Rattle.paper.proofs.Digits.{has-zero}
use Rattle.paper.proofs.Members.{any_in, in_any}
use Rattle.words.specs.Marks.{placed}
use Rattle.table.specs.Reading.{Blank}
use Rattle.ends_masks.specs.Seating.{siblings}
use Rattle.ends_masks.proofs.Numbers.{any-below-alike}
use Rattle.choice_judge.specs.Judging.{kept_in, passed_in, parted_at, left_out, PassedOn}

module _ (node parents : List ℕ) (w : ℕ) where
  -- row y is in the word and was made from b
  abbrev from : ℕ → ℕ → Bool
  from b y = has w y && has (at parents y) b

  -- ---- the words, one row after another
  pub passed_none : (passed : List ℕ) → Blank passed → PassedOn node parents w 0 passed
  passed_none passed z = record { digits = λ i l b. ap (λ (x : ℕ). has x b) (z i) ∙ has-zero b }

  pub passed-more : (passed : List ℕ) (j i x : ℕ) → i ≡ at node j → ((b : ℕ) → has x b ≡ from b j) → PassedOn node parents w j passed
      → PassedOn node parents w (j + 1) (set passed i (bit_or (at passed i) x))
  passed-more passed j i x e h p = record { digits = each_word }
    where
      more : (k b : ℕ) → placed (from b) (at node) (j + 1) k ≡ placed (from b) (at node) j k || (from b j && eqb (at node j) k)
      more k b = ap (λ (y : ℕ). placed (from b) (at node) y k) (add-one j) ∙ any_below (λ y. from b y && eqb (at node y) k) j

      each_word : (k : ℕ) → k < length (set passed i (bit_or (at passed i) x)) → (b : ℕ)
          → has (at (set passed i (bit_or (at passed i) x)) k) b ≡ placed (from b) (at node) (j + 1) k
      each_word k l b =
          let inside : k < length passed = omega (arith, length-set passed i (bit_or (at passed i) x)) in
          ⊎_elim
          (λ q.
          let z = eqb-true k i q in
          let f : eqb (at node j) k ≡ true = eq-eqb (at node j) k (sym (z ∙ e)) in
          rw (more k b, f, mathlib.Core.Bool.and-true (from b j))
          (rw z (rw (get_or-set_same passed i (bit_or (at passed i) x) 0 (omega arith))
          (has_or (at passed i) x b ∙ ap₂ (λ (u v : Bool). u || v) (p.digits i (omega arith) b) (h b)))))
          (λ q.
          let z = eqb-false k i q in
          let f : eqb (at node j) k ≡ false = ne_eqb (at node j) k (λ u. z (sym u ∙ sym e)) in
          rw (more k b, f, mathlib.Core.Bool.and-false (from b j), get_or-set_other passed i k (bit_or (at passed i) x) 0 z)
          (p.digits k inside b ∙ sym (or-false (placed (from b) (at node) j k)))) (true_or_false (eqb k i))

  -- ---- a row that shares an offer with the word of its node has a sibling in w
  pub left_word : (passed : List ℕ) (rows z : ℕ) → at parents z < 2 ^ 64 → PassedOn node parents w rows passed → at node z < length passed
      → not (eqb (bit_and (at parents z) (at passed (at node z))) 0) ≡ any (λ y. siblings node parents y z && has w y) (below rows)
  left_word passed rows z small p l = iff _ _ forth back
    where
      forth : not (eqb (bit_and (at parents z) (at passed (at node z))) 0) ≡ true → any (λ y. siblings node parents y z && has w y) (below rows) ≡ true
      forth e =
          let m = meet_has (at parents z) (at passed (at node z)) 64 small e in
          let b = m.0 in
          let r = any_in (λ y. from b y && eqb (at node y) (at node z)) (below rows) (sym (p.digits (at node z) l b) ∙ m.3) in
          let y = r.0 in
          let q = and-true (from b y) (eqb (at node y) (at node z)) r.2 in
          let v = and-true (has w y) (has (at parents y) b) q.0 in
          let s = and_both (eqb (at node y) (at node z)) (not (eqb (bit_and (at parents y) (at parents z)) 0)) q.1 (has_meet (at parents y) (at parents z) b v.1 m.2) in
          in_any (λ y. siblings node parents y z && has w y) r.1 (and_both (siblings node parents y z) (has w y) s v.0)

      back : any (λ y. siblings node parents y z && has w y) (below rows) ≡ true → not (eqb (bit_and (at parents z) (at passed (at node z))) 0) ≡ true
      back e =
          let r = any_in (λ y. siblings node parents y z && has w y) (below rows) e in
          let y = r.0 in
          let q = and-true (siblings node parents y z) (has w y) r.2 in
          let s = and-true (eqb (at node y) (at node z)) (not (eqb (bit_and (at parents y) (at parents z)) 0)) q.0 in
          let m = meet_has (at parents z) (at parents y) 64 small (ap (λ (x : ℕ). not (eqb x 0)) (and_comm (at parents z) (at parents y)) ∙ s.1) in
          let b = m.0 in
          let f = and_both (from b y) (eqb (at node y) (at node z)) (and_both (has w y) (has (at parents y) b) q.1 m.3) s.0 in
          has_meet (at parents z) (at passed (at node z)) b m.2 (p.digits (at node z) l b ∙ in_any (λ y. from b y && eqb (at node y) (at node z)) r.1 f)

-- ---- rows left out, asked part by part
module _ (node parents : List ℕ) (rows w : ℕ) (t : List ℕ) (z : ℕ) where
  pub left_nowhere : nodes t ≤ at node z → left_out node parents rows w t z ≡ false
  unfolding left_out
  left_nowhere l = rw (le-ltb (at node z) (nodes t) l)

  pub left_other : is_fork (kind t (at node z)) ≡ false → left_out node parents rows w t z ≡ false
  unfolding left_out
  left_other e = rw (e, and_never (ltb (at node z) (nodes t)))

  pub left-taken : has w z ≡ true → left_out node parents rows w t z ≡ false
  unfolding left_out kept_in
  left-taken e = rw e (by (any (λ y. siblings node parents y z && has w y) (below rows)))
    where
      by : (b : Bool) → ltb (at node z) (nodes t) && is_fork (kind t (at node z)) && not (b ⇒ true) ≡ false
      by true = and_never (ltb (at node z) (nodes t) && is_fork (kind t (at node z)))
      by false = and_never (ltb (at node z) (nodes t) && is_fork (kind t (at node z)))

  pub left_asked : at node z < nodes t → is_fork (kind t (at node z)) ≡ true → has w z ≡ false
      → left_out node parents rows w t z ≡ any (λ y. siblings node parents y z && has w y) (below rows)
  unfolding left_out kept_in
  left_asked l f e = rw (lt-ltb (at node z) (nodes t) l, f, e) (by (any (λ y. siblings node parents y z && has w y) (below rows)))
    where
      by : (b : Bool) → not (b ⇒ false) ≡ b
      by true = refl
      by false = refl

-- ---- forks that a row leaves which is left out
not-all : (e k : ℕ → Bool) (xs : List ℕ) → not (all (λ z. e z ⇒ k z) xs) ≡ any (λ z. e z && not (k z)) xs
not-all e k [] = refl
not-all e k (x ∷ xs) = by (e x) (k x) (not-all e k xs)
  where
    by : (a b : Bool) → not (all (λ z. e z ⇒ k z) xs) ≡ any (λ z. e z && not (k z)) xs
        → not ((a ⇒ b) && all (λ z. e z ⇒ k z) xs) ≡ (a && not b) || any (λ z. e z && not (k z)) xs
    by true true h = h
    by true false h = refl
    by false b h = h

pub parted-marked : (node parents : List ℕ) (rows w : ℕ) (t : List ℕ) (i : ℕ) → i < nodes t → placed (left_out node parents rows w t) (at node) rows i ≡ parted_at node parents rows w t i
unfolding left_out passed_in
parted-marked node parents rows w t i l =
    any-below-alike (λ z. left_out node parents rows w t z && eqb (at node z) i) (λ z. is_fork (kind t i) && (eqb (at node z) i && not (kept_in node parents rows w z))) rows
    (λ z m. here z (eqb (at node z) i) refl)
    ∙ sym (any-and (λ z. eqb (at node z) i && not (kept_in node parents rows w z)) (is_fork (kind t i)) (below rows))
    ∙ ap (λ (b : Bool). is_fork (kind t i) && b) (sym (not-all (λ z. eqb (at node z) i) (kept_in node parents rows w) (below rows)))
  where
    here : (z : ℕ) (b : Bool) → eqb (at node z) i ≡ b
        → (ltb (at node z) (nodes t) && is_fork (kind t (at node z)) && not (kept_in node parents rows w z)) && b ≡ is_fork (kind t i) && (b && not (kept_in node parents rows w z))
    here z true e =
        let q = eqb-true (at node z) i e in
        mathlib.Core.Bool.and-true (ltb (at node z) (nodes t) && is_fork (kind t (at node z)) && not (kept_in node parents rows w z))
        ∙ ap (λ (x : ℕ). ltb x (nodes t) && is_fork (kind t x) && not (kept_in node parents rows w z)) q
        ∙ ap (λ (a : Bool). a && is_fork (kind t i) && not (kept_in node parents rows w z)) (lt-ltb i (nodes t) l)
    here z false e =
        and_never (ltb (at node z) (nodes t) && is_fork (kind t (at node z)) && not (kept_in node parents rows w z)) ∙ sym (and_never (is_fork (kind t i)))
