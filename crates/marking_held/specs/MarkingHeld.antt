-- What columns of a marking mean: its stocks are values that stay, in old bytes, and values that come, in others. Assumes nothing.
use Rattle.std.specs.Prelude.{ℕ, ◌+◌, ◌*◌, ◌≤◌, ◌<◌, ◌≡◌, true, false, List, [], ◌++◌, length, take, drop, replicate}
use Rattle.std.proofs.Math.Option.{some}
use Rattle.paper.specs.Lists.{at, one_if, gather}
use Rattle.paper.specs.Bytes.{four}
use Rattle.paper.specs.Limits.{limits}
use Rattle.paper.specs.Table.{nodes, edges, kind, is_object_node, is_action}
use Rattle.paper.specs.Marking.{Marking, counted, marking}
use Rattle.marking.specs.declared.reading.Fields.{Fields}

-- a marking in columns, of which code lends those that it reads or changes. A stock is two runs: `kept` values that stay, in the old bytes from place `from`
-- on, then `more` values that come, in other bytes from `place` on
pub record Held : Type 0 where
  pub from : List ℕ
  pub kept : List ℕ
  pub place : List ℕ
  pub more : List ℕ
  pub runs : List ℕ
  pub tokens : List ℕ

abbrev pub held_in : List ℕ → List ℕ → List ℕ → List ℕ → List ℕ → List ℕ → Held
held_in f k p n r o = record { from = f; kept = k; place = p; more = n; runs = r; tokens = o }

-- `kept` values stand in `old` from place `from` on, `more` values in `extra` from `place` on, and a byte says how many they are
pub record StockInside (old extra : List ℕ) (from kept place more : ℕ) : Type 0 where
  pub few : kept + more ≤ 255
  pub in_old : from + 4 * kept ≤ length old
  pub in_extra : place + 4 * more ≤ length extra

-- and these are the values vs
pub record StockHeld (vs old extra : List ℕ) (from kept place more : ℕ) : Type 0 where
  pub many : length vs ≡ kept + more
  pub stand : gather four vs ≡ take (4 * kept) (drop from old) ++ take (4 * more) (drop place extra)
  pub inside : StockInside old extra from kept place more

-- the marking m is held: of each object node its stock, of each action its running byte, of each edge with a count the count.
-- Where `extra` is [] nothing comes
pub record MarkingHeld (t : List ℕ) (m : Marking) (old extra : List ℕ) (x : Held) : Type 0 where
  pub stocks : (i : ℕ) → i < nodes t → is_object_node (kind t i) ≡ true
      → StockHeld (m.stock i) old extra (at x.from i) (at x.kept i) (at x.place i) (at x.more i)
  pub running : (i : ℕ) → i < nodes t → is_action (kind t i) ≡ true → at x.runs i ≡ one_if (m.runs i)
  pub counts : (j : ℕ) → j < edges t → counted t j ≡ true → at x.tokens j ≡ m.tokens j

-- what is to be written stands in the bytes that it is taken from, whatever marking that is
pub record HeldInside (t old extra : List ℕ) (x : Held) : Type 0 where
  pub stock : (i : ℕ) → i < nodes t → is_object_node (kind t i) ≡ true
      → StockInside old extra (at x.from i) (at x.kept i) (at x.place i) (at x.more i)

-- the columns have the lengths of the arrays that are lent, which their types as lists don't say
pub record HeldLengths (x : Held) : Type 0 where
  pub from-long : length x.from ≡ limits.most_nodes
  pub kept-long : length x.kept ≡ limits.most_nodes
  pub place-long : length x.place ≡ limits.most_nodes
  pub more-long : length x.more ≡ limits.most_nodes
  pub runs-long : length x.runs ≡ limits.most_nodes
  pub tokens-long : length x.tokens ≡ limits.most_edges

-- a live marking was read from the bytes b, and is held; nothing comes
pub record LiveMarking (t b : List ℕ) (x : Held) : Type 0 where
  pub current : Marking
  pub is_read : marking t b ≡ some current
  pub live : current.ended ≡ false
  pub held : MarkingHeld t current b [] x
  pub lengths : HeldLengths x

-- nothing for each node, and for each edge
abbrev pub no_nodes : List ℕ
no_nodes = replicate limits.most_nodes 0

abbrev pub no_edges : List ℕ
no_edges = replicate limits.most_edges 0

-- what was read of a marking, of which nothing comes: the places of stocks, the first bytes of the nodes' fields, which are a stock's count or a running byte,
-- and the counts
abbrev pub held_of : List ℕ → List ℕ → List ℕ → Held
held_of f k o = held_in f k no_nodes no_nodes k o

abbrev pub fields_held : Fields → Held
fields_held x = held_of x.from x.kept x.tokens

-- the arrays have the lengths that they are declared with
pub record FieldsLengths (x : Fields) : Type 0 where
  pub from-long : length x.from ≡ limits.most_nodes
  pub kept-long : length x.kept ≡ limits.most_nodes
  pub tokens-long : length x.tokens ≡ limits.most_edges
