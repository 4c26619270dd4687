-- What is handed on of the slots, and what it promises. Assumes nothing.
use mathlib.Core.Path.{◌≡◌, refl, sym, ap, ap₂, ◌∙◌, subst}
use mathlib.Core.Bool.{Bool, true}
use mathlib.Core.List.{List, []}
use mathlib.Core.Option.{none}
use Prim.Native.Nat.{ℕ, ◌+◌, ◌/◌, ◌%◌, ◌≤◌, ◌<◌}
use native.Mathlib.Omega.{arith}
use lib.ListN.{length, get_or}
use Rattle.paper.specs.Lists.{at, gather}
use Rattle.paper.specs.Limits.{limits}
use Rattle.paper.specs.Table.{edges}
use Rattle.paper.specs.Offers.{Offer, first, paths, sorted_paths, offers}
use Rattle.paper.proofs.Ends.{ends-length}
use Rattle.paper.proofs.Lengths.{length-each}
use Rattle.offers.specs.Sets.{nth}
use Rattle.offers_all.specs.Stages.{on_edge}
use Rattle.ends_paths.specs.Blocks.{block_cells, first_block, path_start, Fit, path_in, paths_of}
use Rattle.ends_paths.proofs.Walks.{length_run}
use Rattle.ends_paths.proofs.Insertion.{in_order-inside}
use Rattle.ends_paths.proofs.Slots.{paths-few}
use Rattle.ends.specs.Ends.{Stored, Told}
use Rattle.std.specs.Prelude.{Ok, Err}
use Rattle.wire.specs.declared.Refusal.TheVariants.{Size}
use Rattle.ends_order.specs.Order.{by_end, list_of, shown}
use Rattle.ends.specs.Slots.{end_rows}
use Rattle.ends.proofs.Order.{paths_legible}
use Rattle.ends.proofs.Sorts.{run-entry, run-part}
use Rattle.ends.proofs.Meaning.{Done, rows-are-ends, slot_found, paths-number, list-is, slots-are}

-- row 8
pub told-many : (t rows a b : List ℕ) (show : Bool) (ends order lens cells : List ℕ) → limits.most_ends < length (end_rows t a b (edges t))
    → Told (Err Size) t rows a b show ends order lens cells
told-many t rows a b show ends order lens cells h m goes c y =
    let ts = gather (on_edge t goes m) y.order in
    (refl, omega (arith, h, ends-length t (offers t goes m), ap length (rows-are-ends rows c y), length-each (nth ts) (end_rows t a b (edges t))))

module _ {t a b rows found keys : List ℕ} {n : ℕ} {show : Bool} {ends order lens cells : List ℕ} (d : Done t a b rows found keys n show ends order lens cells) where
  abbrev sorted : List ℕ
  sorted = d.ordered.sorted

  abbrev slots : List ℕ
  slots = d.ordered.slots

  slot_inside : (k : ℕ) → k < n → at slots k < n
  slot_inside k h = (in_order-inside (by_end keys rows found sorted lens cells) slots 0 n d.ordered.ends-sorted k (omega arith) h).1

  module _ (is-shown : show ≡ true) where
    block_laid : (k j : ℕ) → k < n → j < limits.most_paths → at order (first_block k + j) ≡ at sorted (first_block (at slots k) + j)
    block_laid k j h u =
        d.ordered.blocks_laid is-shown (first_block k + j) (omega arith)
        ∙ ap₂ (λ p q. at sorted (first_block (at slots p) + q)) (let e : (first_block k + j) / limits.most_paths ≡ k = omega arith in e)
        (let e : (first_block k + j) % limits.most_paths ≡ j = omega arith in e)

    -- block j of the slot of end k
    block_fit : (k j : ℕ) → k < n → j < paths_of rows found (at slots k) → Fit lens (at order (first_block k + j))
    block_fit k j h u =
        let s = at slots k in
        let few = paths-few rows found s in
        let legible = paths_legible d.few (d.ordered.pathed (shown is-shown)) s (slot_inside k h) in
        subst (Fit lens) (sym (block_laid k j h (omega arith))) (legible (first_block s + j) (omega arith) (omega arith))

  list-entry : (s j : ℕ) → j < paths_of rows found s → path_in lens cells (at sorted (first_block s + j)) ≡ get_or (list_of rows found sorted lens cells s) j []
  unfolding list_of
  list-entry s j u = sym (run-entry [] (λ i. path_in lens cells (at sorted i)) (first_block s) (paths_of rows found s) j u)

  pub told-good : block_cells ≤ length cells → Told (Ok n) t rows a b show ends order lens cells
  told-good room m goes c y = record {
    number = sym (length_run (λ k. nth ts (at found (at slots k))) 0 n) ∙ ap length (slots-are rows c y d);
    few = d.few;
    inside = λ k h. rw (laid k h) (slot_found rows c y d (at slots k) (slot_inside k h)).inside;
    ends-are = λ k h.
        ap (nth ts) (laid k h)
        ∙ ap (λ z. nth ts (at found (at slots z))) (let e : k ≡ 0 + k = omega arith in e)
        ∙ sym (run-entry (first 0 none) (λ k. nth ts (at found (at slots k))) 0 n k h)
        ∙ ap (λ z. nth z k) (slots-are rows c y d);
    paths-are = λ e k h j u. stored e k h j (subst (λ z. j < length (paths (nth ts z))) (laid k h) u);
  }
    where
      ts : List Offer
      ts = gather (on_edge t goes m) y.order

      laid : (k : ℕ) → k < n → at ends k ≡ at found (at slots k)
      laid = d.ordered.rows_laid

      stored : show ≡ true → (k : ℕ) → k < n → (j : ℕ) → j < length (paths (nth ts (at found (at slots k))))
          → Stored lens cells (at order (first_block k + j)) (get_or (sorted_paths (nth ts (at ends k))) j [])
      stored e k h j u =
          let s = at slots k in
          let ls = slot_inside k h in
          let v : j < paths_of rows found s = omega (arith, paths-number rows c y d s ls) in
          let few = paths-few rows found s in
          let f = block_fit e k j h v in
          let q = at order (first_block k + j) in
          record {
            block = f.block;
            some-edge = f.some-edge;
            short = f.short;
            is =
                run-part cells (path_start q (at lens q)) (at lens q) (let w = f.block in let z = f.short in omega arith)
                ∙ ap (path_in lens cells) (block_laid e k j h (omega arith))
                ∙ list-entry s j v
                ∙ ap (λ z. get_or z j []) (list-is rows c y d (shown e) s ls)
                ∙ ap (λ z. get_or (sorted_paths (nth ts z)) j []) (sym (laid k h));
          }
