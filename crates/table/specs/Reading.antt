-- What the reader of a table reads, and what it knows of the bytes while it reads. Assumes nothing.
use Rattle.std.specs.Prelude.{ℕ, ◌≤◌, ◌<◌, ◌≡◌, true, List, length}
use Rattle.paper.specs.Lists.{at}
use Rattle.paper.specs.Answers.{Answer, good, ◌>>=◌}
use Rattle.paper.specs.Limits.{Limits as Paper, limits_for, limits}
use Rattle.paper.specs.Table.{nodes, edges, edge_at, node_fine, edge_fine, table_fine}
use Rattle.table.specs.declared.Table.{Table}
use Rattle.table.specs.declared.Limits.{Limits}

abbrev pub counts_of : List ℕ → Table
counts_of t = record { nodes = nodes t; edges = edges t }

-- rows 1 to 4 under limits l, and the counts of a table that passes them
unfoldable pub read_under : Paper → List ℕ → Answer Table
read_under l t = do
  _ ← table_fine t l
  good (counts_of t)

-- under today's
abbrev pub table_read : List ℕ → Answer Table
table_read t = read_under limits t

-- the limits that a reader is handed; arrays hold no more than today's
abbrev pub under : Limits → Paper
under l = limits_for l.nodes l.edges limits.longest_marking

pub record Holdable (l : Limits) : Type 0 where
  pub nodes_hold : l.nodes ≤ limits.most_nodes
  pub edges_hold : l.edges ≤ limits.most_edges

-- the counts x are those of t, within the limits, and t is as long as they say
pub record Spans (t : List ℕ) (x : Table) : Type 0 where
  pub nodes-read : x.nodes ≡ nodes t
  pub edges-read : x.edges ≡ edges t
  pub few-nodes : nodes t ≤ limits.most_nodes
  pub few-edges : edges t ≤ limits.most_edges
  pub whole : length t ≡ edge_at t (edges t)

-- rows 2 and 3 refuse nothing
abbrev pub NodesFine : List ℕ → Type 0
NodesFine t = (i : ℕ) → i < nodes t → node_fine t limits i ≡ true

abbrev pub EdgesFine : List ℕ → Type 0
EdgesFine t = (j : ℕ) → j < edges t → edge_fine t j ≡ true

-- nothing is written yet
abbrev pub Blank : List ℕ → Type 0
Blank marks = (i : ℕ) → at marks i ≡ 0
