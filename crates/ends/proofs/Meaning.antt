-- What the slots come to: the paper's ends in the paper's order, with their paths in order. Assumes nothing.
use mathlib.Core.Path.{◌≡◌, refl, sym, ap, ap₂, ◌∙◌, subst}
use mathlib.Core.Bool.{Bool, true, false, not, cond}
use mathlib.Core.List.{List, [], ◌∷◌, ◌++◌}
use mathlib.Core.Option.{none}
use Prim.Native.Nat.{ℕ, ◌+◌, ◌-◌, ◌≤◌, ◌<◌, compare}
use native.Mathlib.Omega.{arith}
use lib.ListN.{length, get_or}
use Rattle.paper.specs.Lists.{at, from, below, each, keep, gather}
use Rattle.paper.specs.Limits.{limits}
use Rattle.paper.specs.Table.{edges, kind, target, is_control_node}
use Rattle.paper.specs.Marking.{Marking}
use Rattle.paper.specs.Offers.{Offer, first, last_edge, paths, offers, is_end, target_of, then_by, lex, sort, sorted_paths, end_order, ends as endsOf}
use Rattle.paper.proofs.Members.{In, here, later, in_below, keep-none, entry_in}
use Rattle.paper.proofs.Orders.{compare_exact}
use Rattle.paper.proofs.Sameness.{on-last}
use Rattle.paper.proofs.Fuel.{path-short}
use Rattle.paper.proofs.Lists.{keep_append}
use Rattle.offers.specs.Sets.{nth}
use Rattle.offers.specs.Rows.{Row, rows_in}
use Rattle.offers_all.specs.Stages.{Gates, on_edge, Whole}
use Rattle.offers.proofs.Segments.{each_append, seg-nth, seg_len}
use Rattle.ends_paths.specs.Blocks.{first_block, run, path_in, by_path, Tame, Back, paths_of}
use Rattle.ends_paths.proofs.Insertion.{run_in}
use Rattle.ends_paths.proofs.Slots.{paths-under}
use Rattle.ends_order.specs.Order.{list_of, by_end, Asked, shared}
use Rattle.ends.specs.Slots.{Ordered, ends_on, end_rows, key_of, Keyed}
use Rattle.ends.proofs.Order.{pair_compared, then_same, then_assoc}
use Rattle.ends.proofs.Sorts.{each-each, keep_all, run-list, sort-each}

-- the n rows that are ends are found, and in order
pub record Done (t a b rows found keys : List ℕ) (n : ℕ) (show : Bool) (ends order lens cells : List ℕ) : Type 0 where
  pub few : n ≤ limits.most_ends
  pub is_found : run (at found) 0 n ≡ end_rows t a b (edges t)
  pub keyed : (s : ℕ) → s < n → Keyed t a b found keys s
  pub ordered : Ordered rows found keys n show ends order lens cells

module _ {t : List ℕ} {m : Marking} {goes : Gates} (rows : List ℕ) (c : ℕ) {a b : List ℕ} (y : Whole t m goes (rows_in rows c) a b) where
  abbrev on : ℕ → List Offer
  on = on_edge t goes m

  abbrev trees : List Offer
  trees = gather (on_edge t goes m) y.order

  -- ---- the rows that are ends
  -- the rows of an edge are its offers
  edge-rows : (e : ℕ) → e < edges t → each (nth trees) (from (at a e) (at b e - at a e)) ≡ on e
  edge-rows e l =
      let s = y.segs e l in
      ap (run (nth trees) (at a e)) (let q : at b e - at a e ≡ length (on e) = omega (arith, s.to_b) in q) ∙ run-list (first 0 none) (nth trees) (at a e) (on e) (λ j k. seg-nth s j k)

  -- all of them are ends, or none
  edge-ends : (e : ℕ) → e < edges t → keep (is_end t) (on e) ≡ each (nth trees) (ends_on t a b e)
  unfolding is_end
  edge-ends e l = by (is_control_node (kind t (target t e))) refl
    where
      last-is : (o : Offer) → In o (on e) → is_end t o ≡ not (is_control_node (kind t (target t e)))
      last-is o k = ap (λ z. not (is_control_node (kind t (target t z)))) (on-last t goes m limits.longest_path e k)

      by : (c : Bool) → is_control_node (kind t (target t e)) ≡ c → keep (is_end t) (on e) ≡ each (nth trees) (ends_on t a b e)
      by true h = keep-none (is_end t) (on e) (λ o k. last-is o k ∙ ap not h) ∙ ap (λ z. each (nth trees) (cond z [] (from (at a e) (at b e - at a e)))) (sym h)
      by false h =
          keep_all (is_end t) (on e) (λ o k. last-is o k ∙ ap not h) ∙ sym (edge-rows e l)
          ∙ ap (λ z. each (nth trees) (cond z [] (from (at a e) (at b e - at a e)))) (sym h)

  all-ends : (es : List ℕ) → ((e : ℕ) → In e es → e < edges t) → keep (is_end t) (gather on es) ≡ each (nth trees) (gather (ends_on t a b) es)
  all-ends [] h = refl
  all-ends (e ∷ es) h =
      keep_append (is_end t) (on e) (gather on es)
      ∙ ap₂ (λ u v. u ++ v) (edge-ends e (h e (here refl))) (all-ends es (λ i k. h i (later k)))
      ∙ sym (each_append (nth trees) (ends_on t a b e) (gather (ends_on t a b) es))

  -- the rows found are the paper's ends, not yet in order
  pub rows-are-ends : each (nth trees) (end_rows t a b (edges t)) ≡ keep (is_end t) (offers t goes m)
  unfolding end_rows offers
  rows-are-ends = sym (all-ends (below (edges t)) (λ e k. in_below (edges t) k))

  -- a slot's row has an offer of its edge
  offer-on : {found keys : List ℕ} {s : ℕ} (k : Keyed t a b found keys s) → In (nth trees (at found s)) (on k.edge)
  offer-on {found = found} {s = s} k =
      subst (In (nth trees (at found s))) (edge-rows k.edge k.is-edge)
      (run_in (nth trees) (at a k.edge) (at b k.edge - at a k.edge) (at found s) k.from_a (omega (arith, k.from_a, k.to_b)))

  -- and is a row of the list
  pub record Found (i : ℕ) : Type 0 where
    pub edge : ℕ
    pub inside : i < length trees
    pub offer : In (nth trees i) (on edge)

  row-found : {found keys : List ℕ} {s : ℕ} → Keyed t a b found keys s → Found (at found s)
  row-found k = record { edge = k.edge; inside = omega (arith, seg_len (y.segs k.edge k.is-edge), k.from_a, k.to_b); offer = offer-on k }

  -- ---- the paths of a slot
  held : (i : ℕ) → i < length trees → Row t trees (nth trees i) ((rows_in rows c).entry i)
  held i l = y.holds_ts.rows i l

  inside : (i : ℕ) → i < c → i < length trees
  inside i l = let k = y.holds_ts.count-is in omega arith

  tame : Tame (rows_in rows c)
  tame = record {
    few-rows = y.holds_ts.fits;
    few-paths = λ j l. let w = held j (inside j l) in omega (arith, w.paths-are, w.few);
    small-edges = λ j l. (held j (inside j l)).narrow.last-small;
  }

  -- a path of a row can be walked back
  back : (i : ℕ) → Found i → (k : ℕ) → k < length (paths (nth trees i)) → Back rows i k c (get_or (paths (nth trees i)) k [])
  back i f k l = record {
    tame = tame;
    row = let q = y.holds_ts.count-is in let w = f.inside in omega arith;
    route = y.holds_ts.routes i f.inside k l;
    fits = path-short t goes m limits.longest_path f.edge f.offer (entry_in [] (paths (nth trees i)) k l);
  }

  module _ {found keys : List ℕ} {n : ℕ} {show : Bool} {ends order lens cells : List ℕ} (d : Done t a b rows found keys n show ends order lens cells) where
    abbrev sorted : List ℕ
    sorted = d.ordered.sorted

    abbrev slots : List ℕ
    slots = d.ordered.slots

    -- the offer in a slot
    abbrev offer : ℕ → Offer
    offer s = nth trees (at found s)

    pub slot_found : (s : ℕ) → s < n → Found (at found s)
    slot_found s l = row-found (d.keyed s l)

    -- its last edge
    edge-is : (s : ℕ) (l : s < n) → last_edge (offer s) ≡ (d.keyed s l).edge
    edge-is s l = on-last t goes m limits.longest_path (d.keyed s l).edge (offer-on (d.keyed s l))

    pub paths-number : (s : ℕ) → s < n → paths_of rows found s ≡ length (paths (offer s))
    paths-number s l =
        let f = slot_found s l in
        let w = held (at found s) f.inside in
        sym (paths-under rows found s (omega (arith, w.paths-are, w.few))) ∙ w.paths-are

    module _ (asked : Asked show keys n) where
      -- block first_block s + k has path k of slot s
      block-is : (s : ℕ) → s < n → (k : ℕ) → k < length (paths (offer s)) → path_in lens cells (first_block s + k) ≡ get_or (paths (offer s)) k []
      block-is s l k lk =
          let e = paths-number s l in
          ((d.ordered.pathed asked).traced s l k (omega arith)).is c (get_or (paths (offer s)) k []) (back (at found s) (slot_found s l) k lk)

      pub list-is : (s : ℕ) → s < n → list_of rows found sorted lens cells s ≡ sorted_paths (offer s)
      unfolding list_of sorted_paths by_path
      list-is s l =
          let w = paths_of rows found s in
          let z : first_block s + w - first_block s ≡ w = omega arith in
          sym (each-each (path_in lens cells) (at sorted) (from (first_block s) w))
          ∙ ap (each (path_in lens cells))
          (subst (λ v. run (at sorted) (first_block s) v ≡ sort (by_path lens cells) (from (first_block s) v)) z ((d.ordered.pathed asked).in_order s l))
          ∙ sort-each (path_in lens cells) (by_path lens cells) (lex compare) (first_block s) w (λ p q u v. refl)
          ∙ ap (sort (lex compare)) (ap (run (path_in lens cells) (first_block s)) (paths-number s l)
          ∙ run-list [] (path_in lens cells) (first_block s) (paths (offer s)) (block-is s l))

    -- the keys say which target node comes first, and of one target node which edge
    keys_say : (s u : ℕ) → s < n → u < n
        → compare (at keys s) (at keys u) ≡ then_by (compare (target_of t (offer s)) (target_of t (offer u))) (compare (last_edge (offer s)) (last_edge (offer u)))
    unfolding key_of
    keys_say s u ls lu =
        let p = d.keyed s ls in
        let q = d.keyed u lu in
        ap₂ compare p.key q.key
        ∙ pair_compared (target t p.edge) (target t q.edge) p.edge q.edge p.is_byte q.is_byte
        ∙ sym (ap₂ (λ e f. then_by (compare (target t e) (target t f)) (compare e f)) (edge-is s ls) (edge-is u lu))

    -- where they don't, the two share a key, and their paths do
    order_is : (s u : ℕ) → s < u → u < n → by_end keys rows found sorted lens cells s u ≡ end_order t (offer s) (offer u)
    unfolding by_end end_order
    order_is s u less lu =
        let ls : s < n = omega arith in
        then_same (compare (at keys s) (at keys u)) _ _
        (λ e. let asked = shared s u less lu (compare_exact (at keys s) (at keys u) e) in ap₂ (lex (lex compare)) (list-is asked s ls) (list-is asked u lu))
        ∙ ap (λ o. then_by o (lex (lex compare) (sorted_paths (offer s)) (sorted_paths (offer u)))) (keys_say s u ls lu)
        ∙ then_assoc (compare (target_of t (offer s)) (target_of t (offer u))) _ _

    -- the slots in order are the ends
    pub slots-are : run (λ k. offer (at slots k)) 0 n ≡ endsOf t (offers t goes m)
    unfolding endsOf
    slots-are =
        let z : n - 0 ≡ n = omega arith in
        sym (each-each offer (at slots) (from 0 n))
        ∙ ap (each offer) (subst (λ v. run (at slots) 0 v ≡ sort (by_end keys rows found sorted lens cells) (from 0 v)) z d.ordered.ends-sorted)
        ∙ sort-each offer (by_end keys rows found sorted lens cells) (end_order t) 0 n (λ s u less lu. order_is s u less (omega arith))
        ∙ ap (sort (end_order t)) (sym (each-each (nth trees) (at found) (from 0 n)) ∙ ap (each (nth trees)) d.is_found ∙ rows-are-ends)
