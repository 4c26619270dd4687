-- What the reader of a marking reads, and what it takes up. Assumes nothing.
use Rattle.std.specs.Prelude.{ℕ, ◌≤◌, ◌<◌, ◌≡◌, Bool, true, false, cond, List, [], ◌∷◌, eqb, length, drop, Option, Some, None, Result}
use Rattle.std.proofs.Math.Option.{Option as Maybe, none, some}
use Rattle.paper.specs.Lists.{at, all, one_if}
use Rattle.paper.specs.Bytes.{framed}
use Rattle.paper.specs.Answers.{refused, good}
use Rattle.paper.specs.Table.{nodes, edges, kind, upper, is_object_node, is_action}
use Rattle.paper.specs.Marking.{Marking, Field, tokensOf, counted, node_fields, cleared, marking_fine, marking}
use Rattle.marking.specs.Values.{ValuesNoted}
use Rattle.wire.specs.declared.Refusal.{Refusal}
use Rattle.wire.specs.Refusals.{said}

-- what a reader read, and where the bytes after it start in b, if it is there
abbrev pub Reads : {A : Type 0} → Option ℕ → Maybe (A × List ℕ) → List ℕ → Type 0
Reads {A} (Some q) o b = (x : A) × (o ≡ some (x, drop q b)) × (q ≤ length b)
Reads None o b = o ≡ none

-- the field of an edge, as a node's fields are given by node_fields
abbrev pub edge_fields : List ℕ → ℕ → List Field
edge_fields t j = cond (counted t j) (tokensOf j ∷ []) []

-- what is taken up of node k's field, where no stock exceeds upper: the place behind its first byte, and that byte; 0 where there is no field
pub record NodeRead (t : List ℕ) (m : Marking) (b : List ℕ) (k from kept : ℕ) : Type 0 where
  pub stock : is_object_node (kind t k) ≡ true → ValuesNoted b (m.stock k) from kept
  pub room : is_object_node (kind t k) ≡ true → length (m.stock k) ≤ upper t k
  pub runs : is_action (kind t k) ≡ true → kept ≡ one_if (m.runs k)
  pub bare : is_object_node (kind t k) ≡ false → is_action (kind t k) ≡ false → kept ≡ 0

-- and of edge j's count
pub record EdgeRead (t : List ℕ) (m : Marking) (j tokens : ℕ) : Type 0 where
  pub count : counted t j ≡ true → tokens ≡ m.tokens j
  pub bare : counted t j ≡ false → tokens ≡ 0

-- of the first n nodes, and of the first n edges
pub record NodesRead (t : List ℕ) (m : Marking) (b from kept : List ℕ) (n : ℕ) : Type 0 where
  pub node : (k : ℕ) → k < n → NodeRead t m b k (at from k) (at kept k)

pub record EdgesRead (t : List ℕ) (m : Marking) (tokens : List ℕ) (n : ℕ) : Type 0 where
  pub edge : (j : ℕ) → j < n → EdgeRead t m j (at tokens j)

-- fields read into a marking of which something is known
abbrev pub ReadsInto : (Marking → Type 0) → Option ℕ → Maybe (Marking × List ℕ) → List ℕ → Type 0
ReadsInto N (Some q) o b = (m : Marking) × (o ≡ some (m, drop q b)) × (q ≤ length b) × N m
ReadsInto N None o b = o ≡ none

-- a node or an edge is clear in an ended marking
abbrev pub node_clear : List ℕ → Marking → ℕ → Bool
node_clear t m i = all (cleared t m) (node_fields t i)

abbrev pub edge_clear : List ℕ → Marking → ℕ → Bool
edge_clear t m j = all (cleared t m) (edge_fields t j)

-- the four bytes before the fields
pub record Head (b : List ℕ) : Type 0 where
  pub long : 4 ≤ length b
  pub in_frame : framed b ≡ true
  pub version-one : at b 2 ≡ 1
  pub state : at b 3 ≤ 1

-- every field is read, into m, and taken up; what is left to judge is m as a whole
pub record Walked (t b from kept tokens : List ℕ) : Type 0 where
  pub m : Marking
  pub read : marking t b ≡ cond (marking_fine t m) (some m) none
  pub state : m.ended ≡ eqb (at b 3) 1
  pub nodes-read : NodesRead t m b from kept (nodes t)
  pub edges-read : EdgesRead t m tokens (edges t)

abbrev pub Walk : List ℕ → List ℕ → List ℕ → List ℕ → List ℕ → Bool → Type 0
Walk t b from kept tokens true = Walked t b from kept tokens
Walk t b from kept tokens false = marking t b ≡ none

-- row 5, and what is taken up of a marking that was read
abbrev pub MarkingRead : List ℕ → List ℕ → List ℕ → List ℕ → List ℕ → Maybe Marking → Result Bool Refusal → Type 0
MarkingRead t b from kept tokens none r = said r ≡ refused 5 0
MarkingRead t b from kept tokens (some m) r =
    (said r ≡ good m.ended) × NodesRead t m b from kept (nodes t) × EdgesRead t m tokens (edges t)
