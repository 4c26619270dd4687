-- What the slices show is the paper's sheet of the ends: rows that hold the offers cut nothing off. Assumes nothing.
use Prim.Native.Nat.{ℕ, ◌+◌, ◌%◌, ◌≤◌, ◌<◌, compare}
use mathlib.Core.Path.{◌≡◌, refl, sym, ap, ap₂, ◌∙◌}
use mathlib.Core.Bool.{Bool, true, false}
use mathlib.Core.List.{List, [], ◌∷◌, ◌++◌, append_assoc}
use mathlib.Core.Option.{none}
use native.Mathlib.Omega.{arith}
use lib.Dec.{eqb}
use lib.ListN.{length, get_or}
use Rattle.paper.specs.Lists.{at, below, gather}
use Rattle.paper.specs.Offers.{Offer, first, value, paths, lex, sorted_paths}
use Rattle.paper.specs.Operations.{value_bytes, end_bytes, sheet_bytes}
use Rattle.paper.proofs.Lengths.{each_below, gather-each}
use Rattle.paper.proofs.Orders.{sort-length}
use Rattle.wire.proofs.Runs.{gather-same, part_length}
use Rattle.offers.specs.Sets.{nth}
use Rattle.offers.specs.Rows.{Holds, row_cells, rows_in, value_of}
use Rattle.offers.proofs.Cells.{most_under}
use Rattle.ends_paths.specs.Blocks.{most_blocks, block_cells, first_block, path_start}
use Rattle.ends.specs.Ends.{Stored, EndsListed}
use Rattle.sheet_write.specs.Listing.{value_shown, many, path_shown, path_of, end_shown, sheet_shown, Shows}

value-shown : (h v : ℕ) → value_shown h v ≡ value_bytes (value_of h v)
value-shown h v = by (eqb h 0) refl
  where
    by : (c : Bool) → eqb h 0 ≡ c → value_shown h v ≡ value_bytes (value_of h v)
    by true e = rw e
    by false e = rw e

-- a path's length and edges
abbrev path_bytes : List ℕ → List ℕ
path_bytes p = length p ∷ p

path_stored : (lens cells : List ℕ) (q : ℕ) (p : List ℕ) → block_cells ≤ length cells → Stored lens cells q p → path_shown lens cells q ≡ path_bytes p
unfolding path_shown
path_stored lens cells q p room s =
    let l = part_length cells (path_start q (at lens q)) (at lens q) (omega (arith, s.block, s.short)) in
    let e : length p ≡ at lens q = ap length (sym s.is) ∙ l in
    ap₂ (λ (x : ℕ) (y : List ℕ). x ∷ y) (sym e) s.is

-- what is gathered from a list, place by place
gather_places : {A : Type 0} (a : A) (f : A → List ℕ) (xs : List A) (g : ℕ → List ℕ) → ((k : ℕ) → k < length xs → g k ≡ f (get_or xs k a)) → gather g (below (length xs)) ≡ gather f xs
gather_places {A} a f xs g h =
    gather-same g (λ k. f (get_or xs k a)) (length xs) h ∙ sym (gather-each f (λ (k : ℕ). get_or xs k a) (below (length xs)))
    ∙ ap (gather f) (each_below a (λ k. get_or xs k a) xs (λ k l. refl))

module _ (t rows : List ℕ) (c : ℕ) (ts es : List Offer) (ends order lens cells : List ℕ) (n : ℕ) (room : block_cells ≤ length cells)
    (h : Holds t (rows_in rows c) ts) (s : EndsListed ts es true ends order lens cells n) where
  -- the tree of end k
  abbrev tree : ℕ → Offer
  tree k = nth ts (at ends k)

  -- all its paths are shown
  many_is : (k : ℕ) → k < n → many rows (at ends k) ≡ length (paths (tree k))
  many_is k l =
      let r = h.rows (at ends k) (s.inside k l) in
      sym (most_under ((rows_in rows c).entry (at ends k)).paths (omega (arith, r.paths-are, r.few))) ∙ r.paths-are

  stored : (k : ℕ) → k < n → (j : ℕ) → j < many rows (at ends k) → Stored lens cells (at order (first_block k + j)) (get_or (sorted_paths (tree k)) j [])
  stored k l j i = s.paths-are refl k l j (omega (arith, many_is k l))

  paths-shown : (k : ℕ) → k < n → gather (path_of order lens cells k) (below (many rows (at ends k))) ≡ gather path_bytes (sorted_paths (tree k))
  unfolding sorted_paths
  paths-shown k l =
      let x = tree k in
      let e : length (sorted_paths x) ≡ many rows (at ends k) = sort-length (lex compare) (paths x) ∙ sym (many_is k l) in
      ap (λ (m : ℕ). gather (path_of order lens cells k) (below m)) (sym e)
      ∙ gather_places [] path_bytes (sorted_paths x) (path_of order lens cells k)
      (λ j i. path_stored lens cells (at order (first_block k + j)) (get_or (sorted_paths x) j []) room (stored k l j (omega (arith, e))))

  end-shown : (k : ℕ) → k < n → end_shown rows ends order lens cells k ≡ end_bytes (nth es k)
  unfolding end_shown end_bytes
  end-shown k l =
      let i = at ends k in
      let e = (rows_in rows c).entry i in
      let r = h.rows i (s.inside k l) in
      let small = r.narrow in
      let last : e.last % 256 ≡ e.last = omega (arith, small.last-small) in
      let has : e.has % 256 ≡ e.has = omega (arith, small.has-small) in
      let val : e.value % 4294967296 ≡ e.value = omega (arith, small.value-small) in
      let v : value_shown (e.has % 256) (e.value % 4294967296) ≡ value_bytes (value (tree k)) = ap₂ value_shown has val ∙ value-shown e.has e.value ∙ ap value_bytes r.value-is in
      let ps = gather (path_of order lens cells k) (below (many rows i)) in
      let w : end_shown rows ends order lens cells k ≡ end_bytes (tree k) =
      ap₂ (λ (y : ℕ) (z : List ℕ). y ∷ z) (last ∙ r.last-is)
      (append_assoc (value_shown (e.has % 256) (e.value % 4294967296)) (many rows i ∷ []) ps
      ∙ ap₂ (λ (y z : List ℕ). y ++ z) v (ap₂ (λ (m : ℕ) (z : List ℕ). m ∷ z) (many_is k l) (paths-shown k l))) in
      w ∙ ap end_bytes (s.ends-are k l)

  pub sheet-shown : sheet_shown rows ends order lens cells n ≡ sheet_bytes es
  unfolding sheet_shown sheet_bytes
  sheet-shown =
      let g : gather (end_shown rows ends order lens cells) (below (length es)) ≡ gather end_bytes es =
      gather_places (first 0 none) end_bytes es (end_shown rows ends order lens cells) (λ k l. end-shown k (omega (arith, s.number))) in
      rw (s.number, g)

  -- every place that the writer reads is there
  pub listed-shows : n ≤ length ends → row_cells ≤ length rows → most_blocks ≤ length order → most_blocks ≤ length lens → Shows rows ends order lens cells n
  listed-shows a b d f = record {
    measured = record {
      few = s.few;
      ends_there = a;
      inside = λ k l. omega (arith, s.inside k l, h.count-is, h.fits);
      rows-there = b;
      orders = d;
      lengths = f;
      blocks = λ k j l i. (stored k l j i).block;
      short = λ k j l i. (stored k l j i).short;
    };
    cells-there = room;
  }
