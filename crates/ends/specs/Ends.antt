-- The ends of a table in the paper's order, each a row of the offer list, and their paths in order, in lent slices. Assumes nothing.
use Rattle.std.specs.Prelude.{◌≡◌, Bool, true, List, [], ℕ, ◌+◌, ◌≤◌, ◌<◌, length, get_or, take, drop, Result, Ok, Err}
use Rattle.paper.specs.Lists.{at, gather}
use Rattle.paper.specs.Limits.{limits}
use Rattle.paper.specs.Marking.{Marking}
use Rattle.paper.specs.Offers.{Offer, paths, sorted_paths, offers, ends as endsOf}
use Rattle.offers.specs.Sets.{nth}
use Rattle.offers.specs.Rows.{Ranges, row_cells, rows_in}
use Rattle.offers_all.specs.Stages.{Gates, on_edge, Whole}
use Rattle.ends_paths.specs.Blocks.{most_blocks, block_cells, first_block, path_start}
use Rattle.wire.specs.declared.Refusal.{Refusal}
use Rattle.wire.specs.declared.Refusal.TheVariants.{Size}

-- room for all ends and their paths
pub record Rooms (ends order lens cells : List ℕ) : Type 0 where
  pub ends-room : limits.most_ends ≤ length ends
  pub order-room : most_blocks ≤ length order
  pub lens-room : most_blocks ≤ length lens
  pub cells-room : block_cells ≤ length cells

-- what is lent: the rows, the segments of the edges, and room
pub record Given (rows a b ends order lens cells : List ℕ) : Type 0 where
  pub rows-there : row_cells ≤ length rows
  pub froms : limits.most_edges ≤ length a
  pub tos : limits.most_edges ≤ length b
  pub ranges : Ranges a b limits.most_offers
  pub rooms : Rooms ends order lens cells

-- ---- what it means
-- block q, of whose cells the path takes the last ones, has the path p
pub record Stored (lens cells : List ℕ) (q : ℕ) (p : List ℕ) : Type 0 where
  pub block : q < most_blocks
  pub some-edge : 1 ≤ at lens q
  pub short : at lens q ≤ limits.longest_path
  pub is : take (at lens q) (drop (path_start q (at lens q)) cells) ≡ p

-- the n ends es, where ts are the trees of the rows: end k is row `ends k`; and where paths are shown, its path j, in sorted order, is in block
-- `order (first_block k + j)`
pub record EndsListed (ts es : List Offer) (show : Bool) (ends order lens cells : List ℕ) (n : ℕ) : Type 0 where
  pub number : n ≡ length es
  pub few : n ≤ limits.most_ends
  pub inside : (k : ℕ) → k < n → at ends k < length ts
  pub ends-are : (k : ℕ) → k < n → nth ts (at ends k) ≡ nth es k
  pub paths-are : show ≡ true → (k : ℕ) → k < n → (j : ℕ) → j < length (paths (nth ts (at ends k)))
      → Stored lens cells (at order (first_block k + j)) (get_or (sorted_paths (nth ts (at ends k))) j [])

-- the ends are listed, or there are too many: row 8
abbrev pub Arranged : Result ℕ Refusal → List Offer → List Offer → Bool → List ℕ → List ℕ → List ℕ → List ℕ → Type 0
Arranged (Ok n) ts es show ends order lens cells = EndsListed ts es show ends order lens cells n
Arranged (Err e) ts es show ends order lens cells = (e ≡ Size) × (limits.most_ends < length es)

-- of every offer list whose rows are lent, and whose edges have their offers from a to b
abbrev pub Told : Result ℕ Refusal → List ℕ → List ℕ → List ℕ → List ℕ → Bool → List ℕ → List ℕ → List ℕ → List ℕ → Type 0
Told x t rows a b show ends order lens cells =
    (m : Marking) (goes : Gates) (c : ℕ) (y : Whole t m goes (rows_in rows c) a b)
    → Arranged x (gather (on_edge t goes m) y.order) (endsOf t (offers t goes m)) show ends order lens cells
