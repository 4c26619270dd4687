-- Edges by a key, as the node that they enter, in lists that stand in two arrays: `first` has the first edge of each key, `next` behind each edge the
-- one after it with the same key. A number that is no edge's ends a list. Assumes nothing.
use Rattle.std.specs.Prelude.{ℕ, ◌≤◌, ◌<◌, ◌≡◌, List, [], ◌∷◌, eqb, length, get_or}
use Rattle.paper.specs.Lists.{below, keep}
use Rattle.paper.specs.Limits.{limits}
use Rattle.paper.specs.Table.{nodes, edges, target, into}
use Rattle.table.specs.Reading.{Spans}
use Rattle.table.specs.declared.Table.{Table}

-- from j on, the list has the edges js
abbrev pub ListFrom : List ℕ → ℕ → List ℕ → Type 0
ListFrom next j [] = limits.most_edges ≤ j
ListFrom next j (i ∷ is) = ((j ≡ i) × (j < limits.most_edges)) × ListFrom next (get_or next j 0) is

-- what stands behind an edge is higher, so every list ends
abbrev pub Forward : List ℕ → Type 0
Forward next = (j : ℕ) → j < limits.most_edges → j < get_or next j 0

-- the edges below e with key i, by number
abbrev pub keyed : (ℕ → ℕ) → ℕ → ℕ → List ℕ
keyed key e i = keep (λ j. eqb (key j) i) (below e)

-- the lists of the keys below n are those of the edges below e
pub record Listed (key : ℕ → ℕ) (e n : ℕ) (first next : List ℕ) : Type 0 where
  pub forward : Forward next
  pub lists : (i : ℕ) → i < n → ListFrom next (get_or first i 0) (keyed key e i)

-- the lists are those of the table: an edge's key is the node that it enters
pub record Incoming (t first next : List ℕ) : Type 0 where
  pub forward : Forward next
  pub lists : (i : ℕ) → i < nodes t → ListFrom next (get_or first i 0) (into t i)

-- room for n entries, and nothing listed yet
pub record Unlisted (n : ℕ) (xs : List ℕ) : Type 0 where
  pub room : n ≤ length xs
  pub no_edges : (i : ℕ) → i < n → get_or xs i 0 ≡ 255

-- a table whose edges lead to nodes, and room for its lists
pub record Listable (t : List ℕ) (x : Table) (first next : List ℕ) : Type 0 where
  pub spans : Spans t x
  pub targets : (j : ℕ) → j < edges t → target t j < nodes t
  pub firsts-blank : Unlisted limits.most_nodes first
  pub nexts-blank : Unlisted limits.most_edges next
