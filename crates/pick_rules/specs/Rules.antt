-- Rules 1 to 3 on choices as a net of rules over sets of ends: what each row of it says, in the words of ends_masks. Assumes nothing.
use Rattle.std.specs.Prelude.{◌≡◌, ℕ, ◌+◌, ◌*◌, ◌-◌, ◌≤◌, ◌<◌, Bool, true, not, ◌&&◌, ◌||◌, List, [], ◌∷◌, leb, ltb, eqb}
use Rattle.paper.specs.Lists.{at, has, from, below, all, any, within, ◌⇒◌}
use Rattle.paper.specs.Table.{nodes, edges, kind, owner, lower, upper, target as targetOfEdge, is_action, is_input, is_fork, is_buffer, is_outgoing}
use Rattle.paper.specs.Limits.{limits}
use Rattle.pick_bounds.specs.Net.{meets, obeys, rivals_at, rule_at}
use Rattle.ends_masks.specs.Seating.{rivalled, kept, seats, served}

-- ---- room
-- the rules that a call can have: a row for each offer, for each edge and each target with an end, and one for what can't be taken
abbrev pub most_rules : ℕ
most_rules = limits.most_offers + (limits.most_ends + limits.most_ends) + 1

-- the cells of a net with as many: the rivals of each end, then four for each rule
abbrev pub net_cells : ℕ
net_cells = limits.most_ends + 4 * most_rules

-- ---- a net as it grows
-- the set c of m ends obeys the rivals of each end and the first k rules of a net
unfoldable pub holds : List ℕ → ℕ → ℕ → ℕ → Bool
holds net k m c = all (λ j. obeys m (rivals_at net j) c) (below limits.most_ends) && all (λ i. obeys m (rule_at net i) c) (below k)

-- c passes all of the tests
abbrev pub all_pass : List (ℕ → Bool) → ℕ → Bool
all_pass ps c = all (λ p. p c) ps

-- a net without rules says what the tests do
pub record Starts (net : List ℕ) (m : ℕ) (ps : List (ℕ → Bool)) : Type 0 where
  pub says : (c : ℕ) → holds net 0 m c ≡ all_pass ps c

-- k rules became r, at most `most` of them new, and the new ones say what the tests do
pub record RulesAdded (before : List ℕ) (k : ℕ) (after : List ℕ) (r most m : ℕ) (ps : List (ℕ → Bool)) : Type 0 where
  pub few : r ≤ k + most
  pub says : (c : ℕ) → holds after r m c ≡ holds before k m c && all_pass ps c

-- c passes the test of each number on the list
abbrev pub on_each : (ℕ → ℕ → Bool) → List ℕ → ℕ → Bool
on_each q xs c = all (λ i. q i c) xs

-- a rule at most for each number below j, and for each from z on that is below j
abbrev pub AddedUpto : List ℕ → ℕ → List ℕ → ℕ → ℕ → (ℕ → ℕ → Bool) → ℕ → Type 0
AddedUpto before k after r m q j = RulesAdded before k after r j m (on_each q (below j) ∷ [])

abbrev pub AddedFrom : List ℕ → ℕ → List ℕ → ℕ → ℕ → (ℕ → ℕ → Bool) → ℕ → ℕ → Type 0
AddedFrom before k after r m q z j = RulesAdded before k after r (j - z) m (on_each q (from z (j - z)) ∷ [])

-- what a good marking has: no stock is over its upper
abbrev pub Roomy : List ℕ → List ℕ → Type 0
Roomy t stock = (i : ℕ) → i < nodes t → is_buffer (kind t i) || is_outgoing (kind t i) ≡ true → at stock i ≤ upper t i

-- ---- the ends by what a column says of them
-- no end has x in the column
abbrev pub vacant : List ℕ → ℕ → ℕ → Bool
vacant column n x = not (any (λ k. eqb (at column k) x) (below n))

-- of the ends that have the same in the column, k is the first
abbrev pub leads : List ℕ → ℕ → Bool
leads column k = vacant column k (at column k)

-- what is kept at a number below `most` that has ends is said by the first of them
abbrev pub first_row : List ℕ → ℕ → (ℕ → Bool) → ℕ → Bool
first_row column most keeps k = ltb (at column k) most && leads column k ⇒ keeps (at column k)

-- the choices that take none of the ends in the word w are those that pass the test
pub record BarredEnds (n w : ℕ) (p : ℕ → Bool) : Type 0 where
  pub says : (c : ℕ) → not (meets n c w) ≡ p c

-- ---- what the rows say of the ends, and of the rows that leave a fork
unfoldable pub clash_kept : List ℕ → List ℕ → ℕ → ℕ → ℕ → Bool
clash_kept foes makers n k c = not (has c k && rivalled foes makers n c k)

unfoldable pub fork_kept : List ℕ → List ℕ → List ℕ → List ℕ → ℕ → ℕ → ℕ → ℕ → Bool
fork_kept t node parents makers rows n z c =
    ltb (at node z) (nodes t) && is_fork (kind t (at node z)) ⇒ kept node parents makers rows n c z

-- ---- what they say of the edges into actions
module _ (t edge target home : List ℕ) (n : ℕ) where
  -- an action that starts has one end on the edge e into it
  unfoldable pub edge_kept : ℕ → ℕ → Bool
  edge_kept e c = is_action (kind t (targetOfEdge t e)) && served target home n c (targetOfEdge t e) ⇒ eqb (seats edge n c e) 1

  -- the row of an edge that has ends comes with the first of them; an edge without ends bars those of its action
  abbrev pub edge_row : ℕ → ℕ → Bool
  edge_row k c = first_row edge (edges t) (λ e. edge_kept e c) k

  unfoldable pub edge_bar : ℕ → ℕ → Bool
  edge_bar e c = is_action (kind t (targetOfEdge t e)) && vacant edge n e ⇒ not (served target home n c (targetOfEdge t e))

-- ---- what they say of the nodes
module _ (t target home runs stock : List ℕ) (n : ℕ) where
  -- an action that runs takes no end; an input pin of one that starts has as many as it may; a store has room
  unfoldable pub idle_kept : ℕ → ℕ → Bool
  idle_kept i c = is_action (kind t i) && served target home n c i ⇒ eqb (at runs i) 0

  unfoldable pub pin_kept : ℕ → ℕ → Bool
  pin_kept i c = is_input (kind t i) && served target home n c (owner t i) ⇒ within (lower t i) (upper t i) (seats target n c i)

  unfoldable pub store_kept : ℕ → ℕ → Bool
  store_kept i c = is_buffer (kind t i) || is_outgoing (kind t i) ⇒ leb (seats target n c i) (upper t i - at stock i)

  -- pins and stores
  abbrev pub seats_kept : ℕ → ℕ → Bool
  seats_kept i c = pin_kept i c && store_kept i c

  -- the row of a pin or store that has ends comes with the first of them; an action that runs bars its ends, and so does a pin that needs one and has none
  abbrev pub target_row : ℕ → ℕ → Bool
  target_row k c = first_row target (nodes t) (λ i. seats_kept i c) k

  unfoldable pub pin_bar : ℕ → ℕ → Bool
  pin_bar i c = is_input (kind t i) && (leb 1 (lower t i) && vacant target n i) ⇒ not (served target home n c (owner t i))

  unfoldable pub node_bar : ℕ → ℕ → Bool
  node_bar i c = idle_kept i c && pin_bar i c

-- ---- the tests of rule 3: edges and targets with ends, and the ends that are barred
module _ (t edge target home runs stock : List ℕ) (n : ℕ) where
  abbrev pub bars_kept : ℕ → Bool
  bars_kept c = on_each (edge_bar t edge target home n) (below (edges t)) c && on_each (node_bar t target home runs stock n) (below (nodes t)) c

  abbrev pub destination_tests : List (ℕ → Bool)
  destination_tests = on_each (edge_row t edge target home n) (below n) ∷ on_each (target_row t target home runs stock n) (below n) ∷ bars_kept ∷ []
