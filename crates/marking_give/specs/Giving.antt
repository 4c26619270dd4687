-- What start and finish share: lists appended to nodes of one kind and owner, and tokens from the nodes that fire (rows 15 and 16). Assumes nothing.
use Rattle.std.specs.Prelude.{ℕ, suc, ◌+◌, ◌<◌, ◌≡◌, Bool, true, false, ◌&&◌, cond, List, [], leb, eqb}
use Rattle.paper.specs.Lists.{at, all, below}
use Rattle.paper.specs.Answers.{Answer, good, ◌>>=◌, need, known}
use Rattle.paper.specs.Table.{nodes, edges, kind, source, is_object_node}
use Rattle.paper.specs.Marking.{Marking, has_stock, has_tokens, counted}
use Rattle.paper.specs.Operations.{value_lists, given, room_in}
use Rattle.marking.specs.Values.{is_listed, listed_nodes}
use Rattle.marking_held.specs.MarkingHeld.{Held, MarkingHeld}
use Rattle.marking_give.specs.declared.Firing.{Firing}
use Rattle.marking_give.specs.declared.Firing.TheVariants.{Kind, Node}

-- the nodes that hand a token to each edge with a count that leaves them
abbrev pub fires_as : List ℕ → Firing → ℕ → Bool
fires_as t (Kind k) i = eqb (kind t i) k
fires_as t (Node a) i = eqb i a

abbrev pub gained : List ℕ → (ℕ → Bool) → (ℕ → ℕ) → ℕ → ℕ
gained t fires tokensOf e = cond (has_tokens t e && fires (source t e)) (suc (tokensOf e)) (tokensOf e)

-- how much each node will hold: what is kept and what is appended; a node that holds nothing has none
pub record Amounts (t : List ℕ) (held : ℕ → ℕ) (kept more : List ℕ) : Type 0 where
  pub stock : (i : ℕ) → i < nodes t → is_object_node (kind t i) ≡ true → at kept i + at more i ≡ held i
  pub none : (i : ℕ) → i < nodes t → is_object_node (kind t i) ≡ false → held i ≡ 0

abbrev pub CountsAre : List ℕ → (ℕ → ℕ) → List ℕ → Type 0
CountsAre t held tokens = (j : ℕ) → j < edges t → counted t j ≡ true → at tokens j ≡ held j

-- every count is held, and there are none off the layout
pub record CountsHeld (t : List ℕ) (held : ℕ → ℕ) (tokens : List ℕ) : Type 0 where
  pub counts : CountsAre t held tokens
  pub none : (e : ℕ) → e < edges t → has_tokens t e ≡ false → held e ≡ 0

-- no count passes 255, and then all are held
abbrev pub Gained : List ℕ → (ℕ → ℕ) → List ℕ → Bool → Type 0
Gained t held tokens r = (r ≡ all (λ e. leb (held e) 255) (below (edges t))) × (r ≡ true → CountsAre t held tokens)

-- m with the lists of b appended to the nodes of kind k that belong to o, and a token more on each edge with a count that leaves a node that fires
unfoldable pub give_of : List ℕ → ℕ → ℕ → (ℕ → Bool) → Marking → List ℕ → Answer Marking
give_of t k o fires m b = do
  vss ← known 15 (value_lists (listed_nodes t k o) b)
  let m' = given (λ e. has_tokens t e && fires (source t e)) (listed_nodes t k o) vss m
  _ ← need 16 (room_in t m')
  good m'

-- m is held and nothing comes, it has no stock and no count off the layout, and lists are for object nodes
pub record Givable (t : List ℕ) (k o : ℕ) (m : Marking) (old : List ℕ) (x : Held) : Type 0 where
  pub held : MarkingHeld t m old [] x
  pub no_stock : (i : ℕ) → has_stock t i ≡ false → m.stock i ≡ []
  pub no_count : (e : ℕ) → e < edges t → has_tokens t e ≡ false → m.tokens e ≡ 0
  pub for_stocks : (i : ℕ) → is_listed t k o i ≡ true → is_object_node (kind t i) ≡ true

-- what is held of x, with the values that come and the counts then
abbrev pub given_to : Held → List ℕ → List ℕ → List ℕ → Held
given_to x place more tokens = record { from = x.from; kept = x.kept; place = place; more = more; runs = x.runs; tokens = tokens }
