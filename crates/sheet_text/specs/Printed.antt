-- The text, as a sheet's bytes have it. Places are counted from the sheet's front; a path is its length and its edges, and stands behind the path before
-- it, as an end behind the end before it. Assumes nothing.
use Rattle.std.specs.Prelude.{ℕ, zero, suc, ◌+◌, ◌<◌, cond, List, [], ◌∷◌, ◌++◌, eqb, take, drop}
use Rattle.paper.specs.Lists.{at}
use Rattle.paper.specs.Table.{target, edges}
use Rattle.paper.specs.Program.{decimal, commas}
use Rattle.paper.specs.Bytes.{word_at}

module _ (s : List ℕ) where
  -- the place behind the path at p, and behind m paths from p on
  abbrev pub path_over : ℕ → ℕ
  path_over p = p + (1 + at s p)

  unfoldable pub paths_over : ℕ → ℕ → ℕ
  paths_over p zero = p
  paths_over p (suc m) = paths_over (path_over p) m

  -- the path at p as a word behind a space, and m paths from p on
  unfoldable pub path_printed : ℕ → List ℕ
  path_printed p = 32 ∷ commas (take (at s p) (drop (p + 1) s))

  unfoldable pub paths_printed : ℕ → ℕ → List ℕ
  paths_printed p zero = []
  paths_printed p (suc m) = path_printed p ++ paths_printed (path_over p) m

  -- the value whose flag is at p as a word behind a space
  unfoldable pub value_printed : ℕ → List ℕ
  value_printed p = 32 ∷ cond (eqb (at s p) 0) (45 ∷ []) (decimal (word_at s (p + 1)))

  -- the place behind the end at p, and behind n ends from p on
  unfoldable pub end_over : ℕ → ℕ
  end_over p = paths_over (p + 7) (at s (p + 6))

  unfoldable pub ends_over : ℕ → ℕ → ℕ
  ends_over p zero = p
  ends_over p (suc n) = ends_over (end_over p) n

module _ (t s : List ℕ) where
  -- the line of end k, which is at p, up to its paths
  unfoldable pub head_printed : ℕ → ℕ → List ℕ
  head_printed p k = decimal k ++ (32 ∷ decimal (at s p)) ++ (32 ∷ decimal (target t (at s p))) ++ value_printed s (p + 1)

  unfoldable pub end_printed : ℕ → ℕ → List ℕ
  end_printed p k = head_printed p k ++ paths_printed s (p + 7) (at s (p + 6)) ++ (10 ∷ [])

  -- the lines of n ends, of which end k is at p
  unfoldable pub ends_printed : ℕ → ℕ → ℕ → List ℕ
  ends_printed p k zero = []
  ends_printed p k (suc n) = end_printed p k ++ ends_printed (end_over s p) (suc k) n

  -- the last edge of each of n ends from p on is one of the table's
  unfoldable pub EndsFit : ℕ → ℕ → Type 0
  EndsFit p zero = Unit {0}
  EndsFit p (suc n) = (at s p < edges t) × EndsFit (end_over s p) n

-- the first line, for n ends, and the last, for the ends taken
unfoldable pub count_printed : ℕ → List ℕ
count_printed n = (101 ∷ 110 ∷ 100 ∷ 115 ∷ []) ++ (32 ∷ decimal n) ++ (10 ∷ [])

unfoldable pub pick_printed : List ℕ → List ℕ
pick_printed ks = (112 ∷ 105 ∷ 99 ∷ 107 ∷ 32 ∷ []) ++ commas ks ++ (10 ∷ [])

-- the whole text
unfoldable pub text_printed : List ℕ → List ℕ → List ℕ → List ℕ
text_printed t s ks = count_printed (at s 3) ++ ends_printed t s 4 0 (at s 3) ++ pick_printed ks
