-- A marking that is held, with edges spent: counts go to 0, and the oldest value of a stock goes. Assumes nothing.
use mathlib.Core.Path.{◌≡◌, sym, ap, ◌∙◌}
use Prim.Native.Nat.{ℕ, ◌+◌, ◌-◌, ◌*◌, ◌≤◌, ◌<◌}
use native.Mathlib.Omega.{arith}
use mathlib.Core.Bool.{Bool, true, false, not, ◌&&◌, cond}
use mathlib.Core.List.{List, [], ◌∷◌, ◌++◌, append-nil}
use lib.Dec.{eqb}
use lib.ListN.{length, take, drop, set, length-drop}
use lib.Seq.{drop_at, take-add, drop-drop, length-take-le}
use borrow.Author.Tests.{eq-eqb, ne_eqb, eqb-false, lt-ltb, not-true}
use Rattle.paper.specs.Lists.{at, gather}
use Rattle.paper.specs.Bytes.{four}
use Rattle.paper.specs.Table.{nodes, edges}
use Rattle.paper.specs.Marking.{Marking}
use Rattle.paper.proofs.Bools.{and-true}
use Rattle.marking_held.specs.MarkingHeld.{StockHeld, MarkingHeld, held_in}
use Rattle.marking_held.proofs.Fillings.{filled_none, filled_set, filled_as}
use Rattle.step_spend.specs.Spending.{loses, goes, second_value, TokensGone, OldestGone, tokens_spent, stocks_spent}

-- ---- counts
pub tokens-held : (p : ℕ → Bool) {old new : List ℕ} {n : ℕ} → TokensGone p old new n → {t : List ℕ} {m : Marking} {b extra f k q s r : List ℕ} → n ≡ edges t
    → MarkingHeld t m b extra (held_in f k q s r old) → MarkingHeld t (tokens_spent p m) b extra (held_in f k q s r new)
tokens-held p h e v = record {
  stocks = v.stocks;
  running = v.running;
  counts = λ j l c. h.done j (omega arith) ∙ ap (cond (p j) 0) (v.counts j l c);
}

-- ---- one stock
second_place : (f : ℕ) → f + 4 < 65536 → second_value f ≡ f + 4
second_place f l = rw (lt-ltb f 65532 (omega arith))

-- the values behind the oldest
module _ (b : List ℕ) (v : ℕ) (vs : List ℕ) (f k q n : ℕ) (short : length b < 65536) (h : StockHeld (v ∷ vs) b [] f k q n) where
  behind-oldest : gather four vs ≡ take (4 * (k - 1)) (drop (f + 4) b)
  behind-oldest =
      let i = h.inside in
      let e : 4 * k ≡ 4 + 4 * (k - 1) = omega (arith, h.many, i.in_extra) in
      let z : 4 * n ≡ 0 = omega (arith, i.in_extra) in
      let l : length (take 4 (drop f b)) ≡ 4 = length-take-le 4 (drop f b) (omega (arith, i.in_old, length-drop f b)) in
      let s : gather four (v ∷ vs) ≡ take 4 (drop f b) ++ take (4 * (k - 1)) (drop 4 (drop f b)) =
      h.stand ∙ rw (z, e) (append-nil (take (4 + 4 * (k - 1)) (drop f b)) ∙ take-add 4 (4 * (k - 1)) (drop f b)) in
      ap (drop 4) s ∙ drop_at (take 4 (drop f b)) (take (4 * (k - 1)) (drop 4 (drop f b))) 4 l ∙ ap (take (4 * (k - 1))) (drop-drop 4 f b)

  oldest_gone : StockHeld vs b [] (second_value f) (k - 1) q n
  oldest_gone =
      let i = h.inside in
      let z : 4 * n ≡ 0 = omega (arith, i.in_extra) in
      rw (second_place f (omega (arith, h.many, i.in_extra, i.in_old))) (record {
        many = omega (arith, h.many, i.in_extra);
        stand = behind-oldest ∙ sym (rw z (append-nil (take (4 * (k - 1)) (drop (f + 4) b))));
        inside = record { few = omega (arith, i.few); in_old = omega (arith, h.many, i.in_extra, i.in_old); in_extra = i.in_extra };
      })

-- a stock of a node that loses or not
stock-spent : (b vs : List ℕ) (f k q n : ℕ) (g : Bool) → length b < 65536 → StockHeld vs b [] f k q n
    → StockHeld (cond g (drop 1 vs) vs) b [] (cond (g && not (eqb k 0)) (second_value f) f) (cond (g && not (eqb k 0)) (k - 1) k) q n
stock-spent b vs f k q n false s h = h
stock-spent b [] f k q n true s h = rw (eq-eqb k 0 (omega (arith, h.many))) h
stock-spent b (v ∷ vs) f k q n true s h =
    let d : k ≡ 0 → ⊥ = λ z. omega (arith, h.many, h.inside.in_extra) in
    rw (ne_eqb k 0 d) (oldest_gone b v vs f k q n s h)

-- ---- all stocks
-- there is a value that goes
pub goes_some : (mark kept : ℕ) → goes mark kept ≡ true → 1 ≤ kept
goes_some mark kept e = let z = eqb-false kept 0 (not-true (eqb kept 0) (and-true (not (eqb mark 0)) (not (eqb kept 0)) e).1) in omega (arith, z)

pub oldest-none : (p : ℕ → Bool) (from kept : List ℕ) → OldestGone p from kept from kept 0
oldest-none p from kept = record {
  froms = filled_none (λ i. cond (p i && not (eqb (at kept i) 0)) (second_value (at from i)) (at from i)) from;
  kepts = filled_none (λ i. cond (p i && not (eqb (at kept i) 0)) (at kept i - 1) (at kept i)) kept;
}

module _ {p : ℕ → Bool} {from kept from' kept' : List ℕ} {n : ℕ} (h : OldestGone p from kept from' kept' n) where
  pub oldest-next : n < length from' → n < length kept' → (f k : ℕ)
      → f ≡ cond (p n && not (eqb (at kept' n) 0)) (second_value (at from' n)) (at from' n)
      → k ≡ cond (p n && not (eqb (at kept' n) 0)) (at kept' n - 1) (at kept' n)
      → OldestGone p from kept (set from' n f) (set kept' n k) (n + 1)
  oldest-next lf lk f k ef ek =
      let q = h.kepts.rest n (omega arith) in
      let r = h.froms.rest n (omega arith) in
      record { froms = filled_set h.froms f lf (rw (q, r) at ef); kepts = filled_set h.kepts k lk (rw q at ek) }

  -- the nodes that are marked are those that lose
  pub oldest-marked : (g : ℕ → Bool) → ((i : ℕ) → i < n → p i ≡ g i) → OldestGone g from kept from' kept' n
  oldest-marked g e = record {
    froms = filled_as h.froms (λ i. cond (g i && not (eqb (at kept i) 0)) (second_value (at from i)) (at from i))
        (λ i l. ap (λ (z : Bool). cond (z && not (eqb (at kept i) 0)) (second_value (at from i)) (at from i)) (e i l));
    kepts = filled_as h.kepts (λ i. cond (g i && not (eqb (at kept i) 0)) (at kept i - 1) (at kept i))
        (λ i l. ap (λ (z : Bool). cond (z && not (eqb (at kept i) 0)) (at kept i - 1) (at kept i)) (e i l));
  }

pub oldest-held : (p : ℕ → Bool) (t : List ℕ) {from kept from' kept' : List ℕ} {n : ℕ} → OldestGone (loses p t) from kept from' kept' n → n ≡ nodes t
    → {m : Marking} {b q s r o : List ℕ} → length b < 65536
    → MarkingHeld t m b [] (held_in from kept q s r o) → MarkingHeld t (stocks_spent p t m) b [] (held_in from' kept' q s r o)
oldest-held p t {from} {kept} h e {m} {b} {q} {s} short v = record {
  stocks = λ i l o.
      rw (h.froms.done i (omega arith), h.kepts.done i (omega arith))
      (stock-spent b (m.stock i) (at from i) (at kept i) (at q i) (at s i) (loses p t i) short (v.stocks i l o));
  running = v.running;
  counts = v.counts;
}
