-- The kinds that edges leave and enter, as ranges, and the shape of a node by counts of edges: what a check in one pass goes by. Assumes nothing.
use mathlib.Core.Path.{◌≡◌, refl, sym, ap, ap₂, ◌∙◌}
use Prim.Native.Nat.{ℕ, zero, suc, ◌≤◌, ◌<◌}
use native.Mathlib.Omega.{arith}
use mathlib.Core.Bool.{Bool, true, false, not, ◌&&◌, ◌||◌, cond, beq, not-not, and-false, and_comm}
use mathlib.Core.Logic.{⊎_elim}
use mathlib.Core.List.{List, [], ◌∷◌, ◌++◌}
use lib.Dec.{leb, ltb, eqb}
use borrow.Author.Tests.{ltb-true, ltb-false, eqb-true, lt-leb, ne_eqb}
use Rattle.paper.specs.Lists.{below, all, any, count, within}
use Rattle.paper.specs.Limits.{Limits}
use Rattle.paper.specs.Table.{nodes, edges, kind, owner, lower, source, target, is_object, is_control, into, inputs, is_input, is_pin, is_control_node, one_of, may_leave, may_enter, node_fine, chain}
use Rattle.paper.proofs.Bools.{and-true, true_or_false}
use Rattle.paper.proofs.Lists.{all-below}
use Rattle.paper.proofs.Counts.{all_append, all-count, count_same, any_same, any-and, any-keep}
use Rattle.paper.proofs.Tables.{node_facts}

-- a pin's owner is a node
pub pin_owner : (t : List ℕ) (l : Limits) (i : ℕ) → node_fine t l i ≡ true → is_pin (kind t i) ≡ true → owner t i < nodes t
pin_owner t l i h e = ltb-true _ _ (and-true (ltb (owner t i) (nodes t)) _ (rw e at (node_facts t l i h).owner-fine)).0

-- the lists of kinds that edges leave and enter, as ranges: they agree on the kinds there are, computed, and nothing else is in either
one-of-none : (ks : List ℕ) (n k : ℕ) → all (λ x. ltb x n) ks ≡ true → n ≤ k → one_of ks k ≡ false
one-of-none [] n k h l = refl
one-of-none (x ∷ ks) n k h l =
    let p = and-true (ltb x n) _ h in
    let q = ltb-true x n p.0 in
    rw (ne_eqb k x (λ e. omega arith)) (one-of-none ks n k p.1 l)

within_none : (a b k : ℕ) → b < k → within a b k ≡ false
within_none a b k h = rw (lt-leb k b h) (and-false (leb a k))

same_test : (f g : ℕ → Bool) (n : ℕ) → all (λ k. beq (f k) (g k)) (below n) ≡ true → ((k : ℕ) → n ≤ k → f k ≡ g k) → (k : ℕ) → f k ≡ g k
same_test f g n h past k =
    ⊎_elim (λ l. same (f k) (g k) (all-below (λ k. beq (f k) (g k)) n h k (ltb-true k n l))) (λ l. past k (ltb-false k n l)) (true_or_false (ltb k n))
  where
    same : (a b : Bool) → beq a b ≡ true → a ≡ b
    same true true e = refl
    same true false e = sym e
    same false true e = e
    same false false e = refl

pub may_leave_is : (b : Bool) (k : ℕ) → may_leave b k ≡ is_control_node k || cond b (within 4 6 k) (within 1 2 k)
may_leave_is true k =
    same_test (may_leave true) (λ k. is_control_node k || within 4 6 k) 14 refl
    (λ k h. one-of-none (4 ∷ 5 ∷ 6 ∷ 8 ∷ 9 ∷ 10 ∷ 11 ∷ []) 14 k refl h ∙ sym (rw (within_none 8 11 k (omega arith)) (within_none 4 6 k (omega arith)))) k
may_leave_is false k =
    same_test (may_leave false) (λ k. is_control_node k || within 1 2 k) 14 refl
    (λ k h. one-of-none (1 ∷ 2 ∷ 8 ∷ 9 ∷ 10 ∷ 11 ∷ []) 14 k refl h ∙ sym (rw (within_none 8 11 k (omega arith)) (within_none 1 2 k (omega arith)))) k

pub may-enter : (b : Bool) (k : ℕ) → may_enter b k ≡ within 8 13 k || cond b (one_of (3 ∷ 5 ∷ 7 ∷ []) k) (eqb k 2)
may-enter true k =
    same_test (may_enter true) (λ k. within 8 13 k || one_of (3 ∷ 5 ∷ 7 ∷ []) k) 14 refl
    (λ k h. one-of-none (3 ∷ 5 ∷ 7 ∷ 8 ∷ 9 ∷ 10 ∷ 11 ∷ 12 ∷ 13 ∷ []) 14 k refl h
    ∙ sym (rw (within_none 8 13 k (omega arith)) (one-of-none (3 ∷ 5 ∷ 7 ∷ []) 14 k refl h))) k
may-enter false k =
    same_test (may_enter false) (λ k. within 8 13 k || eqb k 2) 14 refl
    (λ k h. one-of-none (2 ∷ 8 ∷ 9 ∷ 10 ∷ 11 ∷ 12 ∷ 13 ∷ []) 14 k refl h
    ∙ sym (rw (within_none 8 13 k (omega arith)) (ne_eqb k 2 (λ e. omega arith)))) k

-- ---- row 4: edges at a node, counted by kind
module _ (t : List ℕ) where
  -- all of the edges are of one kind if none is of the other
  pub all_object : (xs ys : List ℕ) → all (is_object t) (xs ++ ys) ≡ eqb (count (is_control t) xs) 0 && eqb (count (is_control t) ys) 0
  all_object xs ys = all_append (is_object t) xs ys ∙ ap₂ ◌&&◌ (all-count (is_object t) xs) (all-count (is_object t) ys)

  pub all-control : (xs ys : List ℕ) → all (is_control t) (xs ++ ys) ≡ eqb (count (is_object t) xs) 0 && eqb (count (is_object t) ys) 0
  all-control xs ys = all_append (is_control t) xs ys ∙ ap₂ ◌&&◌ (none xs) (none ys)
    where
      none : (zs : List ℕ) → all (is_control t) zs ≡ eqb (count (is_object t) zs) 0
      none zs =
          all-count (is_control t) zs
          ∙ ap (λ (n : ℕ). eqb n 0) (count_same (λ j. not (is_control t j)) (is_object t) (λ j. not-not (is_object t j)) zs)

  -- an input pin of lower 1 or more belongs to the action
  pub fed_by : (a : ℕ)
      → any (λ p. leb 1 (lower t p)) (inputs t a) ≡ any (λ p. is_input (kind t p) && leb 1 (lower t p) && eqb (owner t p) a) (below (nodes t))
  unfolding inputs
  fed_by a =
      any-keep (λ p. is_input (kind t p) && eqb (owner t p) a) (λ p. leb 1 (lower t p)) (below (nodes t))
      ∙ any_same (λ p. is_input (kind t p) && eqb (owner t p) a && leb 1 (lower t p))
      (λ p. is_input (kind t p) && leb 1 (lower t p) && eqb (owner t p) a)
      (λ p. last-two (is_input (kind t p)) (eqb (owner t p) a) (leb 1 (lower t p))) (below (nodes t))
    where
      last-two : (a b c : Bool) → a && b && c ≡ a && c && b
      last-two true b c = and_comm b c
      last-two false b c = refl

  -- a chain goes on over an edge from its end to a control node
  pub chain-on : (k i : ℕ) → 1 ≤ k
      → chain t (suc k) i
      ≡ any (λ j. is_control_node (kind t (target t j)) && chain t k (source t j) && eqb (target t j) i) (below (edges t))
  unfolding chain into
  chain-on zero i h = absurd (omega arith)
  chain-on (suc k) i h =
      ap (λ (b : Bool). is_control_node (kind t i) && b) (any-keep (λ j. eqb (target t j) i) (λ j. chain t (suc k) (source t j)) (below (edges t)))
      ∙ any-and (λ j. eqb (target t j) i && chain t (suc k) (source t j)) (is_control_node (kind t i)) (below (edges t))
      ∙ any_same (λ j. is_control_node (kind t i) && (eqb (target t j) i && chain t (suc k) (source t j)))
      (λ j. is_control_node (kind t (target t j)) && chain t (suc k) (source t j) && eqb (target t j) i)
      (λ j. at_target j (eqb (target t j) i) (chain t (suc k) (source t j)) refl) (below (edges t))
    where
      at_target : (j : ℕ) (b c : Bool) → eqb (target t j) i ≡ b → is_control_node (kind t i) && (b && c) ≡ is_control_node (kind t (target t j)) && c && b
      at_target j true c e = rw (eqb-true (target t j) i e) (sym (mathlib.Core.Bool.and-true (is_control_node (kind t i) && c)))
      at_target j false c e = and-false (is_control_node (kind t i)) ∙ sym (and-false (is_control_node (kind t (target t j)) && c))
