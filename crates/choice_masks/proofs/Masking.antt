-- Masks of the ends by column: how they fill, and what they say of an edge or a node. Assumes nothing.
use mathlib.Core.Path.{◌≡◌, sym, ap₂, ◌∙◌}
use mathlib.Core.Logic.{⊎_elim}
use mathlib.Core.Bool.{Bool, ◌||◌}
use mathlib.Core.List.{List}
use Prim.Native.Nat.{ℕ, ◌+◌, ◌^◌, ◌≤◌, ◌<◌}
use native.Mathlib.Omega.{arith}
use lib.Bits.{bit_or, or_lt}
use lib.Dec.{eqb}
use lib.ListN.{length, set, length-set}
use lib.Seq.{get_or-set_same, get_or-set_other}
use borrow.Author.Tests.{eq-eqb, ne_eqb, eqb-true, eqb-false}
use Rattle.paper.specs.Lists.{at}
use Rattle.paper.proofs.Bits.{has_or}
use Rattle.paper.proofs.Bools.{true_or_false}
use Rattle.offers.specs.Sets.{Marks}
use Rattle.offers.proofs.Sets.{marks_nil, marks_skip, marks-more}
use Rattle.table.specs.Reading.{Blank}
use Rattle.table.specs.declared.Table.{Table}
use Rattle.choice_masks.specs.Masks.{Masked, Masks, Owned}

-- ---- one end after another
pub masked_none : (column words : List ℕ) → Blank words → Masked column 0 words
masked_none column words b = record { marks = λ x l. rw (b x) (marks_nil _) }

pub masked_more : (column words : List ℕ) (k x : ℕ) → x ≡ at column k → Masked column k words → Masked column (k + 1) (set words x (bit_or (at words x) (2 ^ k)))
masked_more column words k x e h = record { marks = each_word }
  where
    each_word : (y : ℕ) → y < length (set words x (bit_or (at words x) (2 ^ k))) → Marks (λ j. eqb (at column j) y) (k + 1) (at (set words x (bit_or (at words x) (2 ^ k))) y)
    each_word y l =
        let inside : y < length words = omega (arith, length-set words x (bit_or (at words x) (2 ^ k))) in
        ⊎_elim
        (λ q.
        let z = eqb-true y x q in
        rw (z, get_or-set_same words x (bit_or (at words x) (2 ^ k)) 0 (omega arith))
        (marks-more _ k (at words x) (eq-eqb (at column k) x (sym e)) (rw z at (h.marks y inside))))
        (λ q.
        let z = eqb-false y x q in
        rw (get_or-set_other words x y (bit_or (at words x) (2 ^ k)) 0 z)
        (marks_skip _ k (at words y) (ne_eqb (at column k) y (λ u. z (sym u ∙ sym e))) (h.marks y inside))) (true_or_false (eqb y x))

pub masked_all : {column words : List ℕ} {k n : ℕ} → k ≡ n → Masked column k words → Masked column n words
masked_all e h = rw (sym e) h

-- ---- the ends of either of two masks
pub marks_or : {p q : ℕ → Bool} {n a b : ℕ} → Marks p n a → Marks q n b → Marks (λ k. p k || q k) n (bit_or a b)
marks_or {p} {q} {n} {a} {b} x y = record {
  small = or_lt n a b x.small y.small;
  says = λ k l. has_or a b k ∙ ap₂ (λ (u v : Bool). u || v) (x.says k l) (y.says k l);
}

-- ---- words of three columns
pub masks_of : {table : Table} {edge target home : List ℕ} {n : ℕ} {byEdge byTarget byHome : List ℕ} → Masked edge n byEdge → Masked target n byTarget → Masked home n byHome
    → table.edges ≤ length byEdge → table.nodes ≤ length byTarget → table.nodes ≤ length byHome → Masks table edge target home n byEdge byTarget byHome
masks_of e t h le lt lh = record { edges_masked = e; targets_masked = t; homes_masked = h; edge-words = le; target-words = lt; home_words = lh }

module _ {table : Table} {edge target home : List ℕ} {n : ℕ} {byEdge byTarget byHome : List ℕ} (m : Masks table edge target home n byEdge byTarget byHome) where
  pub at_edge : (e : ℕ) → e < table.edges → Marks (λ k. eqb (at edge k) e) n (at byEdge e)
  at_edge e l = m.edges_masked.marks e (let h = m.edge-words in omega arith)

  pub at_target : (i : ℕ) → i < table.nodes → Marks (λ k. eqb (at target k) i) n (at byTarget i)
  at_target i l = m.targets_masked.marks i (let h = m.target-words in omega arith)

  -- the ends that belong to node i
  pub at_both : (i : ℕ) → i < table.nodes → Owned target home n i (bit_or (at byTarget i) (at byHome i))
  at_both i l = marks_or (at_target i l) (m.homes_masked.marks i (let h = m.home_words in omega arith))
