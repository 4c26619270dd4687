-- Masks of the ends by what a column says of them. Assumes nothing.
use Rattle.std.specs.Prelude.{ℕ, ◌≤◌, ◌<◌, ◌||◌, List, eqb, length}
use Rattle.paper.specs.Lists.{at}
use Rattle.table.specs.declared.Table.{Table}
use Rattle.offers.specs.Sets.{Marks}

-- word x marks the ends that have x in the column
pub record Masked (column : List ℕ) (n : ℕ) (words : List ℕ) : Type 0 where
  pub marks : (x : ℕ) → x < length words → Marks (λ k. eqb (at column k) x) n (at words x)

-- the masks of the three columns, a word for each edge and for each node of the table
pub record Masks (table : Table) (edge target home : List ℕ) (n : ℕ) (byEdge byTarget byHome : List ℕ) : Type 0 where
  pub edges_masked : Masked edge n byEdge
  pub targets_masked : Masked target n byTarget
  pub homes_masked : Masked home n byHome
  pub edge-words : table.edges ≤ length byEdge
  pub target-words : table.nodes ≤ length byTarget
  pub home_words : table.nodes ≤ length byHome

-- the word w marks the ends that belong to node i
abbrev pub Owned : List ℕ → List ℕ → ℕ → ℕ → ℕ → Type 0
Owned target home n i w = Marks (λ k. eqb (at target k) i || eqb (at home k) i) n w
