-- "Table": its bytes, read at offsets, and rows 1 to 4. Assumes nothing.
use Rattle.std.specs.Prelude.{ℕ, zero, suc, ◌+◌, ◌*◌, Bool, true, false, not, ◌&&◌, ◌||◌, cond, List, [], ◌∷◌, ◌++◌, leb, ltb, eqb, length}
use Rattle.paper.specs.Lists.{at, below, all, any, keep, count, lowest, within, ◌⇒◌}
use Rattle.paper.specs.Answers.{Answer, ◌>>=◌, refuse_if, need}
use Rattle.paper.specs.Bytes.{framed}
use Rattle.paper.specs.Limits.{Limits}

-- ---- "Kinds: 1 initial, 2 action, 3 input pin, 4 output pin, 5 central buffer, 6 incoming parameter, 7 outgoing parameter, 8 decision, 9 merge, 10
-- fork, 11 join, 12 flow final, 13 activity final."
abbrev pub is_initial : ℕ → Bool
is_initial k = eqb k 1

abbrev pub is_action : ℕ → Bool
is_action k = eqb k 2

abbrev pub is_input : ℕ → Bool
is_input k = eqb k 3

abbrev pub is_output : ℕ → Bool
is_output k = eqb k 4

abbrev pub is_buffer : ℕ → Bool
is_buffer k = eqb k 5

abbrev pub is_incoming : ℕ → Bool
is_incoming k = eqb k 6

abbrev pub is_outgoing : ℕ → Bool
is_outgoing k = eqb k 7

abbrev pub is_decision : ℕ → Bool
is_decision k = eqb k 8

abbrev pub is_merge : ℕ → Bool
is_merge k = eqb k 9

abbrev pub is_fork : ℕ → Bool
is_fork k = eqb k 10

abbrev pub is_join : ℕ → Bool
is_join k = eqb k 11

abbrev pub is_activity_final : ℕ → Bool
is_activity_final k = eqb k 13

abbrev pub is_pin : ℕ → Bool
is_pin k = is_input k || is_output k

-- kinds 3 to 7: those that hold values
abbrev pub is_object_node : ℕ → Bool
is_object_node k = within 3 7 k

-- "control nodes (kinds 8 to 11; ..)"
abbrev pub is_control_node : ℕ → Bool
is_control_node k = within 8 11 k

abbrev pub one_of : List ℕ → ℕ → Bool
one_of ks k = any (eqb k) ks

-- "Control edges leave kinds 1, 2, 8 to 11", "Object edges leave kinds 4, 5, 6, 8 to 11"
abbrev pub may_leave : Bool → ℕ → Bool
may_leave false k = one_of (1 ∷ 2 ∷ 8 ∷ 9 ∷ 10 ∷ 11 ∷ []) k
may_leave true k = one_of (4 ∷ 5 ∷ 6 ∷ 8 ∷ 9 ∷ 10 ∷ 11 ∷ []) k

-- "and enter 2, 8 to 13", "and enter 3, 5, 7, 8 to 13"
abbrev pub may_enter : Bool → ℕ → Bool
may_enter false k = one_of (2 ∷ 8 ∷ 9 ∷ 10 ∷ 11 ∷ 12 ∷ 13 ∷ []) k
may_enter true k = one_of (3 ∷ 5 ∷ 7 ∷ 8 ∷ 9 ∷ 10 ∷ 11 ∷ 12 ∷ 13 ∷ []) k

module _ (t : List ℕ) where
  -- ---- offsets: the one place that knows them
  -- bytes before the nodes: the length, the version, then the two counts
  abbrev pub header : ℕ
  header = 5

  -- "version 1, node count n .., edge count e ..": how many of each is a limit
  unfoldable pub version : ℕ
  version = at t 2

  unfoldable pub nodes : ℕ
  nodes = at t 3

  unfoldable pub edges : ℕ
  edges = at t 4

  -- "n nodes of 4 bytes, e edges of 4 bytes"
  abbrev pub node_at : ℕ → ℕ
  node_at i = header + 4 * i

  abbrev pub edge_at : ℕ → ℕ
  edge_at j = header + 4 * nodes + 4 * j

  -- "Node: kind, owner, lower, upper."
  unfoldable pub kind : ℕ → ℕ
  kind i = at t (node_at i)

  unfoldable pub owner : ℕ → ℕ
  owner i = at t (node_at i + 1)

  unfoldable pub lower : ℕ → ℕ
  lower i = at t (node_at i + 2)

  unfoldable pub upper : ℕ → ℕ
  upper i = at t (node_at i + 3)

  -- "Edge: kind (0 control, 1 object), source, target, guarded (0 or 1)."
  unfoldable pub edge_kind : ℕ → ℕ
  edge_kind j = at t (edge_at j)

  unfoldable pub source : ℕ → ℕ
  source j = at t (edge_at j + 1)

  unfoldable pub target : ℕ → ℕ
  target j = at t (edge_at j + 2)

  unfoldable pub guarded : ℕ → ℕ
  guarded j = at t (edge_at j + 3)

  abbrev pub is_object : ℕ → Bool
  is_object j = eqb (edge_kind j) 1

  abbrev pub is_control : ℕ → Bool
  is_control j = not (is_object j)

  -- the edges into node i, and out of it, by number
  unfoldable pub into : ℕ → List ℕ
  into i = keep (λ j. eqb (target j) i) (below edges)

  unfoldable pub out : ℕ → List ℕ
  out i = keep (λ j. eqb (source j) i) (below edges)

  -- the input pins of an action, and its output pins, in order
  unfoldable pub inputs : ℕ → List ℕ
  inputs a = keep (λ p. is_input (kind p) && eqb (owner p) a) (below nodes)

  unfoldable pub outputs : ℕ → List ℕ
  outputs a = keep (λ p. is_output (kind p) && eqb (owner p) a) (below nodes)

  -- ---- row 1: table frame, version, counts; "L = 3 + 4n + 4e"
  unfoldable pub frame_fine : Limits → Bool
  frame_fine l =
      framed t && eqb version 1 && within 1 l.most_nodes nodes && leb edges l.most_edges
      && eqb (length t) (edge_at edges)

  -- ---- row 2: "Owner: an action's number for pins, else 255. Upper: 1 to 16 for kinds 3 to 7, else 0. Lower: 0 to upper for input pins, else 0."
  unfoldable pub node_fine : Limits → ℕ → Bool
  node_fine l i =
      within 1 13 (kind i)
      && cond (is_pin (kind i)) (ltb (owner i) nodes && is_action (kind (owner i))) (eqb (owner i) 255)
      && cond (is_object_node (kind i)) (within 1 l.most_upper (upper i)) (eqb (upper i) 0)
      && cond (is_input (kind i)) (leb (lower i) (upper i)) (eqb (lower i) 0)

  -- ---- row 3: an edge's fields, and its ends
  unfoldable pub edge_fine : ℕ → Bool
  edge_fine j =
      leb (edge_kind j) 1 && ltb (source j) nodes && ltb (target j) nodes && leb (guarded j) 1
      && may_leave (is_object j) (kind (source j)) && may_enter (is_object j) (kind (target j))

  -- ---- row 4, per node
  -- "a decision or fork has exactly one incoming and at least one outgoing edge; a merge or join at least one incoming and exactly one outgoing."
  unfoldable pub degrees_fine : ℕ → Bool
  degrees_fine i =
      (is_decision (kind i) || is_fork (kind i) ⇒ eqb (length (into i)) 1 && leb 1 (length (out i)))
      && (is_merge (kind i) || is_join (kind i) ⇒ leb 1 (length (into i)) && eqb (length (out i)) 1)

  -- "All edges at a decision, merge or fork have one kind."
  unfoldable pub one_kind : ℕ → Bool
  one_kind i =
      is_decision (kind i) || is_merge (kind i) || is_fork (kind i)
      ⇒ all is_object (into i ++ out i) || all is_control (into i ++ out i)

  -- "A join has at most one incoming object edge, and its outgoing edge is object exactly if it has one."
  unfoldable pub join_fine : ℕ → Bool
  join_fine i =
      is_join (kind i)
      ⇒ leb (count is_object (into i)) 1 && eqb (count is_object (out i)) (count is_object (into i))

  -- "An action has an incoming control edge or an input pin of lower 1 or more."
  unfoldable pub action_fine : ℕ → Bool
  action_fine i = is_action (kind i) ⇒ any is_control (into i) || any (λ p. leb 1 (lower p)) (inputs i)

  -- a chain of n control nodes, "repeats allowed, each linked to the next by an edge", ends at node i; one of none ends anywhere
  unfoldable pub chain : ℕ → ℕ → Bool
  chain zero i = true
  chain (suc zero) i = is_control_node (kind i)
  chain (suc (suc n)) i = is_control_node (kind i) && any (λ j. chain (suc n) (source j)) (into i)

  -- "No chain of 16 control nodes (..) ends at the node."
  unfoldable pub chain_fine : Limits → ℕ → Bool
  chain_fine l i = not (chain l.chain_too_long i)

  unfoldable pub shape_fine : Limits → ℕ → Bool
  shape_fine l i = degrees_fine i && one_kind i && join_fine i && action_fine i && chain_fine l i

  -- ---- rows 1 to 4, under the limits l
  unfoldable pub table_fine : Limits → Answer (Unit {0})
  table_fine l = do
    _ ← need 1 (frame_fine l)
    _ ← refuse_if 2 (lowest (λ i. not (node_fine l i)) nodes)
    _ ← refuse_if 3 (lowest (λ j. not (edge_fine j)) edges)
    refuse_if 4 (lowest (λ i. not (shape_fine l i)) nodes)
