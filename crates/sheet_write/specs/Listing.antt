-- The sheet's bytes, as the lent slices have them: end k is row `ends k` of the offer list, whose cells are `rows`, and its path j is in block
-- `order (first_block k + j)`, of whose cells the path takes the last ones. Assumes nothing.
use Rattle.std.specs.Prelude.{ℕ, ◌+◌, ◌*◌, ◌%◌, ◌≤◌, ◌<◌, cond, List, [], ◌∷◌, ◌++◌, eqb, length, take, drop}
use Rattle.paper.specs.Lists.{at, below, gather}
use Rattle.paper.specs.Limits.{limits}
use Rattle.paper.specs.Bytes.{sized, four}
use Rattle.wire.specs.Totals.{total}
use Rattle.offers.specs.Rows.{row_cells, rows_in, cell, up_to_most}
use Rattle.ends_paths.specs.Blocks.{most_blocks, block_cells, first_block, path_start}

-- 1 or 0 for value or none, and its four bytes
abbrev pub value_shown : ℕ → ℕ → List ℕ
value_shown h v = cond (eqb h 0) (0 ∷ four 0) (1 ∷ four v)

-- how many paths of row i are shown: there is room for eight
abbrev pub many : List ℕ → ℕ → ℕ
many rows i = up_to_most (cell rows i 4)

-- what stands before the paths of row i: its last edge, its value, and the number of its paths, each cut to the bytes that it gets
abbrev pub front_shown : List ℕ → ℕ → List ℕ
front_shown rows i =
    ((rows_in rows 0).entry i).last % 256
    ∷ value_shown (((rows_in rows 0).entry i).has % 256) (((rows_in rows 0).entry i).value % 4294967296) ++ (many rows i ∷ [])

module _ (lens cells : List ℕ) where
  -- the path in block q: its length and edges
  unfoldable pub path_shown : ℕ → List ℕ
  path_shown q = at lens q ∷ take (at lens q) (drop (path_start q (at lens q)) cells)

module _ (order lens cells : List ℕ) where
  -- path j of end k
  abbrev pub path_of : ℕ → ℕ → List ℕ
  path_of k j = path_shown lens cells (at order (first_block k + j))

abbrev pub path_takes : List ℕ → List ℕ → ℕ → ℕ → ℕ
path_takes order lens k j = 1 + at lens (at order (first_block k + j))

-- what an end takes, and a sheet of n ends
unfoldable pub end_takes : List ℕ → List ℕ → List ℕ → List ℕ → ℕ → ℕ
end_takes rows ends order lens k = 7 + total (path_takes order lens k) (many rows (at ends k))

unfoldable pub sheet_takes : List ℕ → List ℕ → List ℕ → List ℕ → ℕ → ℕ
sheet_takes rows ends order lens n = 4 + total (end_takes rows ends order lens) n

-- the most that these can take: a byte says how many edges a path has
abbrev pub most_end_size : ℕ
most_end_size = 7 + 256 * limits.most_paths

abbrev pub most_sheet_size : ℕ
most_sheet_size = 4 + most_end_size * limits.most_ends

module _ (rows ends order lens cells : List ℕ) where
  unfoldable pub end_shown : ℕ → List ℕ
  end_shown k = front_shown rows (at ends k) ++ gather (path_of order lens cells k) (below (many rows (at ends k)))

  unfoldable pub sheet_shown : ℕ → List ℕ
  sheet_shown n = sized (1 ∷ n ∷ gather end_shown (below n))

-- every place that is read is there, and no path is longer than its block
pub record Measured (rows ends order lens : List ℕ) (n : ℕ) : Type 0 where
  pub few : n ≤ limits.most_ends
  pub ends_there : n ≤ length ends
  pub inside : (k : ℕ) → k < n → at ends k < limits.most_offers
  pub rows-there : row_cells ≤ length rows
  pub orders : most_blocks ≤ length order
  pub lengths : most_blocks ≤ length lens
  pub blocks : (k j : ℕ) → k < n → j < many rows (at ends k) → at order (first_block k + j) < most_blocks
  pub short : (k j : ℕ) → k < n → j < many rows (at ends k) → at lens (at order (first_block k + j)) ≤ limits.longest_path

pub record Shows (rows ends order lens cells : List ℕ) (n : ℕ) : Type 0 where
  pub measured : Measured rows ends order lens n
  pub cells-there : block_cells ≤ length cells
