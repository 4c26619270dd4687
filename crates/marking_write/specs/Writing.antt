-- What the writer of a marking is given and what it writes, in the paper's words. Assumes nothing.
use Rattle.std.specs.Prelude.{ℕ, ◌+◌, ◌*◌, ◌≤◌, cond, List, [], ◌∷◌, ◌++◌, length, take, drop}
use Rattle.paper.specs.Lists.{at, one_if}
use Rattle.paper.specs.Limits.{limits}
use Rattle.paper.specs.Table.{nodes, edges, kind, is_object_node, is_action}
use Rattle.paper.specs.Marking.{counted}
use Rattle.wire.specs.Totals.{total}
use Rattle.marking_held.specs.MarkingHeld.{Held, StockInside, held_in}
use Rattle.marking_write.specs.declared.NodeHeld.{NodeHeld}

-- what is held of nodes, without the counts of edges
abbrev pub nodes_held : List ℕ → List ℕ → List ℕ → List ℕ → List ℕ → Held
nodes_held f k p n r = held_in f k p n r []

-- the columns of nodes have an entry for each of n nodes
pub record NodesLong (n : ℕ) (x : Held) : Type 0 where
  pub from-long : n ≤ length x.from
  pub kept-long : n ≤ length x.kept
  pub place-long : n ≤ length x.place
  pub more-long : n ≤ length x.more
  pub runs-long : n ≤ length x.runs

-- what is held of node i
abbrev pub node_held_at : Held → ℕ → NodeHeld
node_held_at x i = record { from = at x.from i; kept = at x.kept i; place = at x.place i; more = at x.more i; runs = at x.runs i }

abbrev pub NodeInside : List ℕ → List ℕ → NodeHeld → Type 0
NodeInside old extra h = StockInside old extra h.from h.kept h.place h.more

-- ---- what the fields take
-- a node of kind k that holds n values
unfoldable pub size_as : ℕ → ℕ → ℕ
size_as k n = cond (is_object_node k) (1 + 4 * n) (one_if (is_action k))

-- a node holds at most 510 values, for a byte says how many stay and a byte how many come
abbrev pub most_node_size : ℕ
most_node_size = 1 + 4 * 510

abbrev pub node_size : List ℕ → List ℕ → List ℕ → ℕ → ℕ
node_size t kept more i = size_as (kind t i) (at kept i + at more i)

unfoldable pub edge_size : List ℕ → ℕ → ℕ
edge_size t j = one_if (counted t j)

-- "Length (2 bytes), version 1, state", then the fields
unfoldable pub size_of : List ℕ → List ℕ → List ℕ → ℕ
size_of t kept more = 4 + total (node_size t kept more) (nodes t) + total (edge_size t) (edges t)

abbrev pub most_size : ℕ
most_size = 4 + limits.most_nodes * most_node_size + limits.most_edges

-- ---- the fields' bytes
unfoldable pub stock_bytes : List ℕ → List ℕ → NodeHeld → List ℕ
stock_bytes old extra h =
    (h.kept + h.more) ∷ (take (4 * h.kept) (drop h.from old) ++ take (4 * h.more) (drop h.place extra))

unfoldable pub field_bytes : ℕ → List ℕ → List ℕ → NodeHeld → List ℕ
field_bytes k old extra h = cond (is_object_node k) (stock_bytes old extra h) (cond (is_action k) (h.runs ∷ []) [])

abbrev pub node_bytes : List ℕ → List ℕ → List ℕ → Held → ℕ → List ℕ
node_bytes t old extra x i = field_bytes (kind t i) old extra (node_held_at x i)

unfoldable pub edge_bytes : List ℕ → List ℕ → ℕ → List ℕ
edge_bytes t tokens j = cond (counted t j) (at tokens j ∷ []) []
