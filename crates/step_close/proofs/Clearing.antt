-- A marking that is held, ended: what is kept and what comes of outgoing parameters alone. Assumes nothing.
use mathlib.Core.Path.{◌≡◌, refl, sym, ◌∙◌}
use Prim.Native.Nat.{ℕ, ◌+◌, ◌<◌}
use native.Mathlib.Omega.{arith}
use mathlib.Core.Bool.{Bool, true, false, cond}
use mathlib.Core.List.{List, []}
use lib.ListN.{length, set}
use borrow.Author.Tests.{ne_eqb, eq-eqb}
use Rattle.paper.specs.Lists.{at}
use Rattle.paper.specs.Table.{nodes, edges, kind, is_outgoing}
use Rattle.paper.specs.Marking.{Marking, ended_of}
use Rattle.marking_held.specs.Filling.{Filled}
use Rattle.marking_held.specs.MarkingHeld.{StockHeld, MarkingHeld, held_in}
use Rattle.marking_held.proofs.Fillings.{filled_none, filled_set, filled_skip}
use Rattle.step_close.specs.Closing.{Emptied, Closed}

-- ---- one node after the other
pub emptied_none : (t kept more runs : List ℕ) → Emptied t kept more runs kept more runs 0
emptied_none t kept more runs = record {
  kepts = filled_none (λ i. cond (is_outgoing (kind t i)) (at kept i) 0) kept;
  mores = filled_none (λ i. cond (is_outgoing (kind t i)) (at more i) 0) more;
  still = filled_none (λ i. 0) runs;
}

module _ {t kept more runs kept' more' runs' : List ℕ} {i k : ℕ} (h : Emptied t kept more runs kept' more' runs' i) (l : i < length runs')
    (e : k ≡ kind t i) where
  pub emptied_more : (k ≡ 7 → ⊥) → i < length kept' → i < length more' → Emptied t kept more runs (set kept' i 0) (set more' i 0) (set runs' i 0) (i + 1)
  emptied_more q lk lm =
      let z = ne_eqb (kind t i) 7 (λ z. q (e ∙ z)) in
      record { kepts = filled_set h.kepts 0 lk (sym (rw z)); mores = filled_set h.mores 0 lm (sym (rw z)); still = filled_set h.still 0 l refl }

  pub emptied_left : k ≡ 7 → Emptied t kept more runs kept' more' (set runs' i 0) (i + 1)
  emptied_left q =
      let z = eq-eqb (kind t i) 7 (sym e ∙ q) in
      record { kepts = filled_skip h.kepts (sym (rw z)); mores = filled_skip h.mores (sym (rw z)); still = filled_set h.still 0 l refl }

-- ---- all of it, or nothing
module _ {t kept more runs tokens : List ℕ} {b : Bool} where
  pub closed_not : b ≡ false → Closed t b kept more runs tokens kept more runs tokens
  closed_not e = rw e (record { kepts = λ i l. refl; mores = λ i l. refl; still = λ i l. refl; counts = λ j l. refl })

  pub closed_all : {kept' more' runs' tokens' : List ℕ} {n k : ℕ} → b ≡ true → Emptied t kept more runs kept' more' runs' n → n ≡ nodes t
      → Filled (λ j. 0) tokens tokens' k → k ≡ edges t → Closed t b kept more runs tokens kept' more' runs' tokens'
  closed_all e h en f ek = rw e (record {
    kepts = λ i l. h.kepts.done i (omega arith);
    mores = λ i l. h.mores.done i (omega arith);
    still = λ i l. h.still.done i (omega arith);
    counts = λ j l. f.done j (omega arith);
  })

stock-cleared : (b : Bool) (vs old extra : List ℕ) (f k p n : ℕ) → StockHeld vs old extra f k p n
    → StockHeld (cond b vs []) old extra f (cond b k 0) p (cond b n 0)
stock-cleared true vs old extra f k p n v = v
stock-cleared false vs old extra f k p n v =
    let s = v.inside in
    record { many = refl; stand = refl; inside = record { few = omega arith; in_old = omega (arith, s.in_old); in_extra = omega (arith, s.in_extra) } }

pub closed_held : (b : Bool) {t kept more runs tokens kept' more' runs' tokens' : List ℕ} → Closed t b kept more runs tokens kept' more' runs' tokens'
    → {m : Marking} {old extra f q : List ℕ} → MarkingHeld t m old extra (held_in f kept q more runs tokens)
    → MarkingHeld t (cond b (ended_of t m) m) old extra (held_in f kept' q more' runs' tokens')
unfolding ended_of
closed_held true {t} {kept} {more} h {m} {old} {extra} {f} {q} v = record {
  stocks = λ i l o.
      rw (h.kepts i l, h.mores i l)
      (stock-cleared (is_outgoing (kind t i)) (m.stock i) old extra (at f i) (at kept i) (at q i) (at more i) (v.stocks i l o));
  running = λ i l a. h.still i l;
  counts = λ j l c. h.counts j l;
}
closed_held false h v = record {
  stocks = λ i l o. rw (h.kepts i l, h.mores i l) (v.stocks i l o);
  running = λ i l a. h.still i l ∙ v.running i l a;
  counts = λ j l c. h.counts j l ∙ v.counts j l c;
}
