-- A marking that is held, with values that come and actions that start. Assumes nothing.
use mathlib.Core.Path.{◌≡◌, refl, ap, ap₂, ◌∙◌}
use Prim.Native.Nat.{ℕ, ◌+◌, ◌*◌, ◌≤◌, ◌<◌}
use native.Mathlib.Omega.{arith}
use mathlib.Core.Bool.{Bool, true, false, ◌||◌, cond}
use mathlib.Core.List.{List, [], ◌++◌, append-nil}
use lib.ListN.{length, take, drop, length-append}
use Rattle.paper.specs.Lists.{at, gather, one_if}
use Rattle.paper.specs.Bytes.{four}
use Rattle.paper.specs.Limits.{limits}
use Rattle.paper.specs.Table.{nodes}
use Rattle.paper.specs.Marking.{Marking}
use Rattle.paper.proofs.Lengths.{gather_append}
use Rattle.marking.specs.Values.{ValuesNoted}
use Rattle.marking_held.specs.MarkingHeld.{StockHeld, MarkingHeld, held_in}
use Rattle.step_gain.specs.Gains.{coming, Came, gained_by, Started, started_by}
use Rattle.step_gain.proofs.Gaining.{coming_most, before_more, before_most}

-- ---- values
-- values behind those of a stock to which nothing came before
stock-gained : (vs ws old extra : List ℕ) (f k q z p n : ℕ) → StockHeld vs old [] f k q z → ValuesNoted extra ws p n → length vs ≤ limits.most_upper
    → n ≤ limits.most_ends → StockHeld (vs ++ ws) old extra f k p n
stock-gained vs ws old extra f k q z p n h v few-old few-new =
    let i = h.inside in
    let e : 4 * z ≡ 0 = omega (arith, i.in_extra) in
    let s : gather four vs ≡ take (4 * k) (drop f old) = h.stand ∙ rw e (append-nil (take (4 * k) (drop f old))) in
    record {
      many = omega (arith, length-append vs ws, h.many, v.many, i.in_extra);
      stand = gather_append four vs ws ∙ ap₂ ◌++◌ s v.stand;
      inside = record { few = omega (arith, h.many); in_old = i.in_old; in_extra = v.inside };
    }

pub gained-held : (target row value : List ℕ) (w n : ℕ) → n ≤ limits.most_ends → {extra place more : List ℕ} {k : ℕ}
    → Came (coming target row value w n) extra place more k → {t : List ℕ} {m : Marking} {old f g q s r o : List ℕ} → k ≡ nodes t
    → ((i : ℕ) → i < nodes t → length (m.stock i) ≤ limits.most_upper) → MarkingHeld t m old [] (held_in f g q s r o)
    → MarkingHeld t (gained_by (coming target row value w n) m) old extra (held_in f g place more r o)
gained-held target row value w n few {extra} {place} {more} came {t} {m} {old} {f} {g} {q} {s} e fits h = record {
  stocks = λ i l o.
      let v = came.stand i (omega arith) in
      stock-gained (m.stock i) (coming target row value w n i) old extra (at f i) (at g i) (at q i) (at s i) (at place i) (at more i)
      (h.stocks i l o) v (fits i l)
      (omega (arith, v.many, coming_most target row value w n i, before_more target w n i, before_most target w n (i + 1)));
  running = h.running;
  counts = h.counts;
}

-- ---- actions
runs_either : (s r : Bool) → cond s 1 (one_if r) ≡ one_if (r || s)
runs_either true true = refl
runs_either true false = refl
runs_either false true = refl
runs_either false false = refl

pub started_held : (p : ℕ → Bool) {runs runs' : List ℕ} {n : ℕ} → Started p runs runs' n → {t : List ℕ} {m : Marking} {old extra f k q s o : List ℕ}
    → n ≡ nodes t
    → MarkingHeld t m old extra (held_in f k q s runs o) → MarkingHeld t (started_by p m) old extra (held_in f k q s runs' o)
started_held p filled {m = m} e h = record {
  stocks = h.stocks;
  running = λ i l a. filled.done i (omega arith) ∙ ap (cond (p i) 1) (h.running i l a) ∙ runs_either (p i) (m.runs i);
  counts = h.counts;
}
