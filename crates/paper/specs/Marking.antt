-- "Marking": what it says, its bytes, and row 5. Assumes nothing.
use Rattle.std.specs.Prelude.{ℕ, ◌^◌, ◌≤◌, ◌<◌, ◌≡◌, Bool, true, false, not, ◌&&◌, ◌||◌, cond, List, [], ◌∷◌, ◌++◌, ltb, eqb, length}
use Rattle.std.proofs.Math.Option.{Option, none}
use Rattle.paper.specs.Lists.{at, below, all, keep, gather, each, one_if, within, ◌⇒◌}
use Rattle.paper.specs.Bytes.{sized, listed, framed, Reader, ◌>>=◌, done, fail, byte, up_to, values_read, whole}
use Rattle.paper.specs.Table.{nodes, edges, kind, owner, lower, upper, source, is_control, is_initial, is_action, is_input, is_object_node, is_outgoing}

-- what a marking says: "state (0 live, 1 ended)", a node's values, oldest first, whether an action runs, an edge's count
pub record Marking : Type 0 where
  pub ended : Bool
  pub stock : ℕ → List ℕ
  pub runs : ℕ → Bool
  pub tokens : ℕ → ℕ

-- all is empty, idle and 0
abbrev pub blank : Bool → Marking
blank e = record { ended = e; stock = λ n. []; runs = λ n. false; tokens = λ e. 0 }

-- what stands in a marking's bytes behind the state
pub data Field : Type 0 where
  stockOf runsOf tokensOf : ℕ → Field

abbrev set_stock : ℕ → List ℕ → Marking → Marking
set_stock i vs m = record { ended = m.ended; stock = λ n. cond (eqb n i) vs (m.stock n); runs = m.runs; tokens = m.tokens }

abbrev set_runs : ℕ → Bool → Marking → Marking
set_runs i r m = record { ended = m.ended; stock = m.stock; runs = λ n. cond (eqb n i) r (m.runs n); tokens = m.tokens }

abbrev set_tokens : ℕ → ℕ → Marking → Marking
set_tokens j k m = record { ended = m.ended; stock = m.stock; runs = m.runs; tokens = λ e. cond (eqb e j) k (m.tokens e) }

-- a field's bytes
unfoldable pub written : Marking → Field → List ℕ
written m (stockOf i) = listed (m.stock i)
written m (runsOf i) = one_if (m.runs i) ∷ []
written m (tokensOf j) = m.tokens j ∷ []

module _ (t : List ℕ) where
  -- "each control edge leaving an initial node or action"
  unfoldable pub counted : ℕ → Bool
  counted j = is_control t j && (is_initial (kind t (source t j)) || is_action (kind t (source t j)))

  -- "per node in order: kinds 3 to 7, a count and that many 4-byte values, oldest first; kind 2, a running byte 0 or 1; others nothing."
  abbrev pub node_fields : ℕ → List Field
  node_fields i = cond (is_object_node (kind t i)) (stockOf i ∷ []) (cond (is_action (kind t i)) (runsOf i ∷ []) [])

  -- "Then, for each control edge leaving an initial node or action, a count 0 to 255."
  unfoldable pub layout : List Field
  layout = gather node_fields (below (nodes t)) ++ each tokensOf (keep counted (below (edges t)))

  -- "Length (2 bytes), version 1, state (0 live, 1 ended).", then the fields
  unfoldable pub encode : Marking → List ℕ
  encode m = sized (1 ∷ one_if m.ended ∷ gather (written m) layout)

  -- a field, as what it sets; "A stock never exceeds upper.", "a running byte 0 or 1"
  unfoldable pub field_read : Marking → Field → Reader Marking
  field_read m (stockOf i) = do
    vs ← values_read (upper t i)
    done (set_stock i vs m)
  field_read m (runsOf i) = do
    r ← up_to 1
    done (set_runs i (eqb r 1) m)
  field_read m (tokensOf j) = do
    k ← byte
    done (set_tokens j k m)

  abbrev pub fields_read : List Field → Marking → Reader Marking
  fields_read [] m = done m
  fields_read (f ∷ fs) m = do
    m' ← field_read m f
    fields_read fs m'

  -- "Input pins are empty if their action is idle, and hold lower to upper values while it runs."
  unfoldable pub pin_fine : Marking → ℕ → Bool
  pin_fine m p =
      is_input (kind t p)
      ⇒ cond (m.runs (owner t p)) (within (lower t p) (upper t p) (length (m.stock p))) (eqb (length (m.stock p)) 0)

  -- "In an ended marking all but outgoing parameters is empty, idle and 0."
  unfoldable pub cleared : Marking → Field → Bool
  cleared m (stockOf i) = is_outgoing (kind t i) || eqb (length (m.stock i)) 0
  cleared m (runsOf i) = not (m.runs i)
  cleared m (tokensOf j) = eqb (m.tokens j) 0

  unfoldable pub marking_fine : Marking → Bool
  marking_fine m = all (pin_fine m) (below (nodes t)) && (m.ended ⇒ all (cleared m) layout)

  unfoldable pub marking_read : Reader Marking
  marking_read = do
    hi ← byte
    lo ← byte
    v ← byte
    s ← up_to 1
    m ← fields_read layout (blank (eqb s 1))
    cond (eqb v 1 && marking_fine m) (done m) fail

  -- row 5: the marking of this table that the bytes are, or none
  unfoldable pub marking : List ℕ → Option Marking
  marking b = cond (framed b) (whole (marking_read b)) none

  -- the marking ended: outgoing parameters keep all, the rest is cleared
  unfoldable pub ended_of : Marking → Marking
  ended_of m = record {
    ended = true;
    stock = λ n. cond (is_outgoing (kind t n)) (m.stock n) [];
    runs = λ n. false;
    tokens = λ e. 0;
  }

-- where the layout has a field: a stock, a running byte, a count. Start and finish ask for a count; the other two are for `Good` alone
abbrev pub has_stock : List ℕ → ℕ → Bool
has_stock t i = ltb i (nodes t) && is_object_node (kind t i)

abbrev pub has_runs : List ℕ → ℕ → Bool
has_runs t i = ltb i (nodes t) && is_action (kind t i)

abbrev pub has_tokens : List ℕ → ℕ → Bool
has_tokens t j = ltb j (edges t) && counted t j

-- For laws and the contracts of parts: no operation is defined by it. A marking of the table, said without bytes: "A stock never exceeds upper.", values have
-- four bytes, counts are "0 to 255", pins and an ended marking are as they should be, and nothing stands where the layout has no field
pub record Good (t : List ℕ) (m : Marking) : Type 0 where
  pub stocks : (i : ℕ) → length (m.stock i) ≤ cond (has_stock t i) (upper t i) 0
  pub values : (i k : ℕ) → at (m.stock i) k < 2 ^ 32
  pub running : (i : ℕ) → m.runs i ≡ true → has_runs t i ≡ true
  pub counts : (j : ℕ) → m.tokens j ≤ cond (has_tokens t j) 255 0
  pub fine : marking_fine t m ≡ true
