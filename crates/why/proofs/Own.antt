-- Destinations fit by the columns of one node's ends exactly if that node fits by the columns of all. Assumes of the table that it is good, of the node that it is
-- no pin, and of the stocks that they are within their uppers.
use mathlib.Core.Path.{◌≡◌, refl, sym, ap, ap₂, subst, ◌∙◌}
use mathlib.Core.Logic.{⊎_elim}
use mathlib.Core.Bool.{Bool, true, false, ◌&&◌, ◌||◌, cond, or-false}
use mathlib.Core.List.{List}
use Prim.Native.Nat.{ℕ, ◌+◌, ◌≤◌, ◌<◌}
use native.Mathlib.Omega.{arith}
use lib.Dec.{leb, ltb, eqb}
use lib.ListN.{length, set}
use lib.Seq.{get_or-set_same, get_or-set_other}
use borrow.Author.Tests.{eq-eqb, ne_eqb, eqb-true, leb-false, le-leb}
use Rattle.paper.specs.Lists.{at, has, below, all, count, within, ◌⇒◌}
use Rattle.paper.specs.Limits.{limits}
use Rattle.paper.specs.Table.{nodes, kind, owner, lower, upper, into, inputs, is_action, is_pin, is_input, is_output, is_buffer, is_outgoing}
use Rattle.paper.specs.Operations.{own_of}
use Rattle.paper.proofs.Bools.{never, and-true, and_both, and_never, or-true, iff, false_if, true_or_false}
use Rattle.paper.proofs.Counts.{any-below-none, count-below-same}
use Rattle.paper.proofs.Lists.{all-below, below_all}
use Rattle.paper.proofs.Members.{In, any-count, in_keep-below}
use Rattle.paper.proofs.Tables.{GoodTable}
use Rattle.ends_masks.specs.Seating.{seats, served, action_fits, fits, destinations_fit}
use Rattle.ends_masks.proofs.Numbers.{any-below-alike, all_alike}
use Rattle.ends_masks.proofs.Rules.{if_so}
use Rattle.pick_rules.specs.Rules.{Roomy}
use Rattle.why.specs.Reasons.{OwnOnly}

-- ---- kinds of node that are no pins
action_no_pin : (k : ℕ) → is_action k ≡ true → is_pin k ≡ false
action_no_pin k e = ap is_pin (eqb-true k 2 e)

store_no_pin : (k : ℕ) → is_buffer k || is_outgoing k ≡ true → is_pin k ≡ false
store_no_pin k e = ⊎_elim (λ q. ap is_pin (eqb-true k 5 q)) (λ q. ap is_pin (eqb-true k 7 q)) (or-true (is_buffer k) (is_outgoing k) e)

-- ---- the node whose rule is a node's own
module _ (t : List ℕ) (i : ℕ) where
  pub own_of_pin : is_pin (kind t i) ≡ true → own_of t i ≡ owner t i
  unfolding own_of
  own_of_pin e = ap (λ (b : Bool). cond b (owner t i) i) e

  pub own_of_other : is_pin (kind t i) ≡ false → own_of t i ≡ i
  unfolding own_of
  own_of_other e = ap (λ (b : Bool). cond b (owner t i) i) e

-- it is no pin
pub own_no_pin : (t : List ℕ) → GoodTable t limits → (i : ℕ) → i < nodes t → is_pin (kind t (own_of t i)) ≡ false
unfolding own_of
own_no_pin t g i l = by (is_pin (kind t i)) refl (g.node i l).owner-fine
  where
    by : (b : Bool) → is_pin (kind t i) ≡ b → cond b (ltb (owner t i) (nodes t) && is_action (kind t (owner t i))) (eqb (owner t i) 255) ≡ true → is_pin (kind t (cond b (owner t i) i)) ≡ false
    by true e h = action_no_pin (kind t (owner t i)) (and-true (ltb (owner t i) (nodes t)) _ h).1
    by false e h = e

-- ---- a column of one node's ends
-- the first k entries were gone through
pub record SoFar (column home : List ℕ) (own : ℕ) (r : List ℕ) (k : ℕ) : Type 0 where
  pub done : (j : ℕ) → j < k → at r j ≡ cond (eqb (at home j) own) (at column j) 255
  pub rest : (j : ℕ) → k ≤ j → at r j ≡ at column j

pub so_far_none : (column home : List ℕ) (own : ℕ) → SoFar column home own column 0
so_far_none column home own = record { done = λ j l. absurd (omega arith); rest = λ j l. refl }

pub so_far_more : (column home : List ℕ) (own : ℕ) (r : List ℕ) (k x : ℕ) → SoFar column home own r k → k < length r
    → x ≡ cond (eqb (at home k) own) (at r k) 255 → SoFar column home own (set r k x) (k + 1)
so_far_more column home own r k x s l e = record {
  done = λ j m. ⊎_elim
      (λ q. let z = eqb-true j k q in
      rw z (get_or-set_same r k x 0 l ∙ e ∙ ap (λ (y : ℕ). cond (eqb (at home k) own) y 255) (s.rest k (omega arith))))
      (λ q. let ne : j ≡ k → ⊥ = λ z. never _ (eq-eqb j k z) q in
      get_or-set_other r k j x 0 ne ∙ s.done j (omega (arith, ne))) (true_or_false (eqb j k));
  rest = λ j m. get_or-set_other r k j x 0 (λ z. absurd (omega arith)) ∙ s.rest j (omega arith);
}

pub so_far_all : {column home : List ℕ} {own : ℕ} {r : List ℕ} {k : ℕ} (n : ℕ) → n ≤ k → SoFar column home own r k → OwnOnly column home n own r
so_far_all n l s = record { says = λ j m. s.done j (omega arith) }

pub only_at : {column home : List ℕ} {n x y : ℕ} {r : List ℕ} → x ≡ y → OwnOnly column home n x r → OwnOnly column home n y r
only_at {column} {home} {n} {r = r} e o = subst (λ (z : ℕ). OwnOnly column home n z r) e o

module _ {column home : List ℕ} {n own : ℕ} {r : List ℕ} (o : OwnOnly column home n own r) (j : ℕ) (l : j < n) where
  stays : eqb (at home j) own ≡ true → at r j ≡ at column j
  stays e = o.says j l ∙ ap (λ (b : Bool). cond b (at column j) 255) e

  goes : eqb (at home j) own ≡ false → at r j ≡ 255
  goes e = o.says j l ∙ ap (λ (b : Bool). cond b (at column j) 255) e

module _ {column home : List ℕ} {n own : ℕ} {r : List ℕ} (o : OwnOnly column home n own r) (c x : ℕ) (small : x < 255) where
  -- no end elsewhere has x
  seats-same : ((j : ℕ) → j < n → at column j ≡ x → at home j ≡ own) → seats r n c x ≡ seats column n c x
  unfolding seats
  seats-same h = count-below-same (λ k. has c k && eqb (at r k) x) (λ k. has c k && eqb (at column k) x) n (λ j l. ap (λ (b : Bool). has c j && b) (same j l))
    where
      same : (j : ℕ) → j < n → eqb (at r j) x ≡ eqb (at column j) x
      same j l =
          ⊎_elim (λ e. ap (λ (y : ℕ). eqb y x) (stays o j l e))
          (λ e. ap (λ (y : ℕ). eqb y x) (goes o j l e) ∙ ne_eqb 255 x (λ q. absurd (omega arith))
          ∙ sym (false_if _ (λ q. never _ (eq-eqb (at home j) own (h j l (eqb-true (at column j) x q))) e)))
          (true_or_false (eqb (at home j) own))

  -- no end of the node has x
  seats-none : ((j : ℕ) → j < n → at column j ≡ x → at home j ≡ own → ⊥) → seats r n c x ≡ 0
  unfolding seats
  seats-none h =
      let e = any-below-none (λ k. has c k && eqb (at r k) x) n (λ j l. ap (λ (b : Bool). has c j && b) (none j l) ∙ and_never (has c j)) in
      let f = leb-false 1 (count (λ k. has c k && eqb (at r k) x) (below n)) (sym (any-count (λ k. has c k && eqb (at r k) x) (below n)) ∙ e) in
      omega arith
    where
      none : (j : ℕ) → j < n → eqb (at r j) x ≡ false
      none j l =
          ⊎_elim (λ e. ap (λ (y : ℕ). eqb y x) (stays o j l e) ∙ false_if _ (λ q. h j l (eqb-true (at column j) x q) (eqb-true (at home j) own e)))
          (λ e. ap (λ (y : ℕ). eqb y x) (goes o j l e) ∙ ne_eqb 255 x (λ q. absurd (omega arith)))
          (true_or_false (eqb (at home j) own))

-- ---- the columns of the ends that have the node for a home
module _ (t edge target home : List ℕ) (n : ℕ) (homes-are : (k : ℕ) → k < n → at home k ≡ cond (is_pin (kind t (at target k))) (owner t (at target k)) (at target k)) (g : GoodTable t limits)
    (own : ℕ) (there : own < nodes t) (no_pin : is_pin (kind t own) ≡ false) (target' home' : List ℕ)
    (by-target : OwnOnly target home n own target') (by_home : OwnOnly home home n own home') (runs stock : List ℕ) (c : ℕ) where
  few-nodes : (i : ℕ) → i < nodes t → i < 255
  few-nodes i l = omega (arith, g.frame.nodes_fit)

  -- an end at a node that is no pin has it for a home
  at_home : (j i : ℕ) → j < n → is_pin (kind t i) ≡ false → at target j ≡ i → at home j ≡ i
  at_home j i l p e = homes-are j l ∙ rw (e, p) refl

  at-owner : (j p : ℕ) → j < n → is_pin (kind t p) ≡ true → at target j ≡ p → at home j ≡ owner t p
  at-owner j p l q e = homes-are j l ∙ rw (e, q) refl

  -- ---- who is served
  abbrev among : List ℕ → List ℕ → ℕ → ℕ → Bool
  among targets homes i j = eqb (at targets j) i || eqb (at homes j) i

  served_own : served target' home' n c own ≡ served target home n c own
  unfolding served
  served_own = any-below-alike (λ j. has c j && among target' home' own j) (λ j. has c j && among target home own j) n (λ j l. ap (λ (b : Bool). has c j && b) (same j l))
    where
      same : (j : ℕ) → j < n → among target' home' own j ≡ among target home own j
      same j l =
          ⊎_elim (λ e. rw (stays by-target j l e, stays by_home j l e) refl)
          (λ e. let z = few-nodes own there in
          rw (goes by-target j l e, goes by_home j l e, ne_eqb 255 own (λ q. absurd (omega arith)), e)
          (sym (or-false _ ∙ false_if _ (λ q. never _ (eq-eqb (at home j) own (at_home j own l no_pin (eqb-true (at target j) own q))) e))))
          (true_or_false (eqb (at home j) own))

  served_other : (i : ℕ) → i < nodes t → is_action (kind t i) ≡ true → (i ≡ own → ⊥) → served target' home' n c i ≡ false
  unfolding served
  served_other i l a ne = any-below-none (λ j. has c j && among target' home' i j) n (λ j h. ap (λ (b : Bool). has c j && b) (none j h) ∙ and_never (has c j))
    where
      none : (j : ℕ) → j < n → among target' home' i j ≡ false
      none j h =
          ⊎_elim
          (λ e. rw (stays by-target j h e, stays by_home j h e, eqb-true (at home j) own e, ne_eqb own i (λ q. ne (sym q)))
          (or-false _ ∙ false_if _ (λ q. ne (sym (at_home j i h (action_no_pin (kind t i) a) (eqb-true (at target j) i q)) ∙ eqb-true (at home j) own e))))
          (λ e. let z = few-nodes i l in rw (goes by-target j h e, goes by_home j h e, ne_eqb 255 i (λ q. absurd (omega arith))) refl)
          (true_or_false (eqb (at home j) own))

  -- ---- what the node has of ends
  pin_seats : (p : ℕ) → In p (inputs t own) → seats target' n c p ≡ seats target n c p
  unfolding inputs
  pin_seats p m =
      let r = in_keep-below (λ p. is_input (kind t p) && eqb (owner t p) own) (nodes t) m in
      let u = and-true (is_input (kind t p)) _ r.1 in
      let pin : is_pin (kind t p) ≡ true = ap (λ (b : Bool). b || is_output (kind t p)) u.0 in
      seats-same by-target c p (few-nodes p r.0) (λ j l q. at-owner j p l pin q ∙ eqb-true (owner t p) own u.1)

  own_seats : seats target' n c own ≡ seats target n c own
  own_seats = seats-same by-target c own (few-nodes own there) (λ j l q. at_home j own l no_pin q)

  action_same : action_fits t edge target' home' runs stock n c own ≡ action_fits t edge target home runs stock n c own
  unfolding action_fits
  action_same =
      ap (λ (x : Bool). (eqb (at runs own) 0 && all (λ e. eqb (seats edge n c e) 1) (into t own)) && x)
      (all_alike (λ p. within (lower t p) (upper t p) (seats target' n c p)) (λ p. within (lower t p) (upper t p) (seats target n c p)) (inputs t own)
      (λ p m. ap (within (lower t p) (upper t p)) (pin_seats p m)))

  own_fits : fits t edge target' home' runs stock n c own ≡ fits t edge target home runs stock n c own
  unfolding fits
  own_fits =
      ap₂ (λ (x y : Bool). x && y)
      (ap₂ (λ (x y : Bool). is_action (kind t own) && x ⇒ y) served_own action_same)
      (ap (λ (x : ℕ). is_buffer (kind t own) || is_outgoing (kind t own) ⇒ leb (at stock own + x) (upper t own)) own_seats)

  -- ---- any other has none
  other_fits : Roomy t stock → (i : ℕ) → i < nodes t → (i ≡ own → ⊥) → fits t edge target' home' runs stock n c i ≡ true
  unfolding fits
  other_fits room i l ne =
      and_both _ _
      (if_so (is_action (kind t i) && served target' home' n c i) _
      (λ h. let r = and-true (is_action (kind t i)) _ h in never _ r.1 (served_other i l r.0 ne)))
      (if_so (is_buffer (kind t i) || is_outgoing (kind t i)) _
      (λ h.
      let z = seats-none by-target c i (few-nodes i l) (λ j m e q. ne (sym (at_home j i m (store_no_pin (kind t i) h) e) ∙ q)) in
      let r = room i l h in
      le-leb (at stock i + seats target' n c i) (upper t i) (omega arith)))

  pub own_destinations : Roomy t stock → destinations_fit t edge target' home' runs stock n c ≡ fits t edge target home runs stock n c own
  unfolding destinations_fit
  own_destinations room =
      iff _ _ (λ h. sym own_fits ∙ all-below (fits t edge target' home' runs stock n c) (nodes t) h own there)
      (λ h. below_all (fits t edge target' home' runs stock n c) (nodes t)
      (λ i l. ⊎_elim (λ e. subst (λ (x : ℕ). fits t edge target' home' runs stock n c x ≡ true) (sym (eqb-true i own e)) (own_fits ∙ h))
      (λ e. other_fits room i l (λ q. never _ (eq-eqb i own q) e)) (true_or_false (eqb i own))))
