-- Ranks of nodes: how many control nodes the longest chain has that ends there. Assumes nothing.
use Rattle.std.specs.Prelude.{ℕ, ◌+◌, ◌≤◌, ◌<◌, ◌≡◌, true, List}
use Rattle.paper.specs.Lists.{at}
use Rattle.paper.specs.Limits.{limits}
use Rattle.paper.specs.Table.{nodes, edges, source, target, kind, is_control_node, chain}
use Rattle.table.specs.declared.Table.{Table}
use Rattle.table.specs.Reading.{Spans}

-- the bytes span the counts, and edges have nodes at their ends: a good table has it
pub record Framed (t : List ℕ) (x : Table) : Type 0 where
  pub spans : Spans t x
  pub sources : (j : ℕ) → j < edges t → source t j < nodes t
  pub targets : (j : ℕ) → j < edges t → target t j < nodes t

-- a chain of as many control nodes as node i's rank says ends there, and of those of up to k none is longer; ranks end at 16
pub record Ranked (t rk : List ℕ) (k i : ℕ) : Type 0 where
  pub small : at rk i ≤ limits.chain_too_long
  pub reached : chain t (at rk i) i ≡ true
  pub longest : (n : ℕ) → n ≤ k → chain t n i ≡ true → n ≤ at rk i

abbrev pub AllRanked : List ℕ → List ℕ → ℕ → Type 0
AllRanked t rk k = (i : ℕ) → i < nodes t → Ranked t rk k i

-- edge j leads from a control node to a control node
pub record IsLink (t : List ℕ) (j : ℕ) : Type 0 where
  pub inside : j < edges t
  pub leaves : is_control_node (kind t (source t j)) ≡ true
  pub enters : is_control_node (kind t (target t j)) ≡ true

-- the first n numbers are those of the links among the edges below e
pub record Links (t links : List ℕ) (e n : ℕ) : Type 0 where
  pub only : (x : ℕ) → x < n → IsLink t (at links x)
  pub every : (j : ℕ) → j < e → IsLink t j → (x : ℕ) × (x < n) × (at links x ≡ j)

-- x is the rank behind a node of rank r: one more, as far as ranks go
abbrev pub NextRank : ℕ → ℕ → Type 0
NextRank r x = (x ≤ limits.chain_too_long) × (x ≤ r + 1) × ((n : ℕ) → n < limits.chain_too_long → n ≤ r → n < x)
