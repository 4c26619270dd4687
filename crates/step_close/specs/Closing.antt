-- Whether a step ends the marking, said of the columns of ends, and what its columns are then. Assumes nothing.
use Rattle.std.specs.Prelude.{ℕ, ◌≤◌, ◌<◌, ◌≡◌, Bool, ◌&&◌, cond, List, length}
use Rattle.paper.specs.Lists.{at, has, below, any}
use Rattle.paper.specs.Table.{nodes, edges, kind, is_activity_final, is_outgoing}
use Rattle.table.specs.declared.Table.{Table}
use Rattle.marking_held.specs.Filling.{Filled}

-- a taken end is at an activity final
unfoldable pub closes : List ℕ → List ℕ → ℕ → ℕ → Bool
closes t target n c = any (λ k. has c k && is_activity_final (kind t (at target k))) (below n)

-- the columns that are cleared have an entry for each node or edge
pub record ClearRoom (x : Table) (kept more runs tokens : List ℕ) : Type 0 where
  pub in_kept : x.nodes ≤ length kept
  pub in_more : x.nodes ≤ length more
  pub in_runs : x.nodes ≤ length runs
  pub in_tokens : x.edges ≤ length tokens

-- of the first n nodes outgoing parameters alone keep their number of values
abbrev pub OutgoingKept : List ℕ → List ℕ → List ℕ → ℕ → Type 0
OutgoingKept t old new n = Filled (λ i. cond (is_outgoing (kind t i)) (at old i) 0) old new n

-- the first n nodes are empty but for outgoing parameters, and idle
pub record Emptied (t kept more runs kept' more' runs' : List ℕ) (n : ℕ) : Type 0 where
  pub kepts : OutgoingKept t kept kept' n
  pub mores : OutgoingKept t more more' n
  pub still : Filled (λ i. 0) runs runs' n

-- nodes and edges are cleared if the marking ends, and else as they were
pub record Closed (t : List ℕ) (ends : Bool) (kept more runs tokens kept' more' runs' tokens' : List ℕ) : Type 0 where
  pub kepts : (i : ℕ) → i < nodes t → at kept' i ≡ cond ends (cond (is_outgoing (kind t i)) (at kept i) 0) (at kept i)
  pub mores : (i : ℕ) → i < nodes t → at more' i ≡ cond ends (cond (is_outgoing (kind t i)) (at more i) 0) (at more i)
  pub still : (i : ℕ) → i < nodes t → at runs' i ≡ cond ends 0 (at runs i)
  pub counts : (j : ℕ) → j < edges t → at tokens' j ≡ cond ends 0 (at tokens j)
