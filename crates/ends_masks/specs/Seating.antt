-- The ends of a board by value: each is a row of the offer list. The paper's rules on choices, said of rows and of the columns of ends.
-- A choice is a number; end k is taken if its digit k is 1. Assumes nothing.
use Rattle.std.specs.Prelude.{◌≡◌, ℕ, ◌+◌, ◌%◌, ◌≤◌, ◌<◌, Bool, true, not, ◌&&◌, ◌||◌, cond, List, [], ◌∷◌, leb, eqb, length}
use Rattle.std.proofs.Math.Option.{Option}
use Rattle.std.specs.Int.Bits.{bit_and}
use Rattle.paper.specs.Lists.{at, has, below, all, any, count, lowest, one_if, within, ◌⇒◌}
use Rattle.paper.specs.Limits.{limits}
use Rattle.paper.specs.Answers.{good}
use Rattle.paper.specs.Table.{nodes, edges, kind, owner, lower, upper, into, inputs, is_action, is_pin, is_fork, is_buffer, is_outgoing, is_object_node, table_fine, target as targetOfEdge}
use Rattle.paper.specs.Marking.{Marking}
use Rattle.paper.specs.Offers.{Offer, elem}
use Rattle.paper.specs.Choices.{Board, how_many, end}
use Rattle.offers.specs.Sets.{nth, words_clash}
use Rattle.offers.specs.Rows.{Rows, rows_in, row_cells, cell, Holds}
use Rattle.offers.specs.Struct.{Beside, rows_of}
use Rattle.offers.specs.declared.Offers.{Offers}
use Rattle.ends_masks.specs.declared.Ends.{Ends}

-- ---- a board, its rows and its ends
-- the first n ends are among the first `rows` rows
pub record Rowed (ends : List ℕ) (n rows : ℕ) : Type 0 where
  pub many : n ≤ length ends
  pub each-inside : (k : ℕ) → k < n → at ends k < rows

-- the first n ends can be seated: they are rows in the cells m, and each one's last edge, as a byte says it, is one of so many
pub record Seatable (m ends : List ℕ) (n edges : ℕ) : Type 0 where
  pub rowed : Rowed ends n limits.most_offers
  pub cells-there : row_cells ≤ length m
  pub lasts : (k : ℕ) → k < n → ((rows_in m 0).entry (at ends k)).last % 256 < edges

-- the columns of the ends, rows in the cells m: last edge, target, and the node that a target belongs to, its action for a pin and itself for others
pub record Columns (t m ends edge target home : List ℕ) (n : ℕ) : Type 0 where
  pub edges_are : (k : ℕ) → k < n → at edge k ≡ ((rows_in m 0).entry (at ends k)).last % 256
  pub targets-are : (k : ℕ) → k < n → at target k ≡ targetOfEdge t (at edge k)
  pub homes-are : (k : ℕ) → k < n → at home k ≡ cond (is_pin (kind t (at target k))) (owner t (at target k)) (at target k)

-- the arrays have the lengths that they are declared with, which their types as lists don't say, and there are no more ends than those
pub record EndsFull (e : Ends) : Type 0 where
  pub rows-full : length e.row ≡ limits.most_ends
  pub edges-full : length e.edge ≡ limits.most_ends
  pub targets-full : length e.target ≡ limits.most_ends
  pub homes-full : length e.home ≡ limits.most_ends
  pub makers-full : length e.makers ≡ limits.most_ends
  pub foes-full : length e.foes ≡ limits.most_ends
  pub few : e.count ≤ limits.most_ends

-- the ends e are the rows `ends` in the cells m
pub record EndsSeated (t m ends : List ℕ) (e : Ends) : Type 0 where
  pub rows_are : (k : ℕ) → k < e.count → at e.row k ≡ at ends k
  pub columns : Columns t m ends e.edge e.target e.home e.count
  pub makers-are : (k : ℕ) → k < e.count → at e.makers k ≡ cell m (at ends k) 6
  pub foes-are : (k : ℕ) → k < e.count → at e.foes k ≡ cell m (at ends k) 7

-- the rows r hold the offers of the board d, as the trees ts, and the ends e are d's
pub record Seated (t : List ℕ) (d : Board) (r : Rows) (ts : List Offer) (e : Ends) : Type 0 where
  pub table_is : d.table ≡ t
  pub holds_ts : Holds t r ts
  pub offers-are : (x : Offer) → elem x ts ≡ elem x d.all_offers
  pub number : e.count ≡ how_many d
  pub few : e.count ≤ limits.most_ends
  pub inside : (k : ℕ) → k < e.count → at e.row k < length ts
  pub ends-are : (k : ℕ) → k < e.count → nth ts (at e.row k) ≡ end d k
  pub edges_are : (k : ℕ) → k < e.count → at e.edge k ≡ (r.entry (at e.row k)).last
  pub edges-inside : (k : ℕ) → k < e.count → at e.edge k < edges t
  pub targets-are : (k : ℕ) → k < e.count → at e.target k ≡ targetOfEdge t (at e.edge k)
  pub homes-are : (k : ℕ) → k < e.count → at e.home k ≡ cond (is_pin (kind t (at e.target k))) (owner t (at e.target k)) (at e.target k)
  pub makers-are : (k : ℕ) → k < e.count → at e.makers k ≡ (r.entry (at e.row k)).makers
  pub foes-are : (k : ℕ) → k < e.count → at e.foes k ≡ (r.entry (at e.row k)).foes

-- runs and stock are what the marking m says of the actions and the object nodes of the table t
pub record MarkingTold (t : List ℕ) (m : Marking) (runs stock : List ℕ) : Type 0 where
  pub table-fine : table_fine t limits ≡ good tt
  pub running : (i : ℕ) → i < nodes t → is_action (kind t i) ≡ true → at runs i ≡ one_if (m.runs i)
  pub stocks : (i : ℕ) → i < nodes t → is_object_node (kind t i) ≡ true → at stock i ≡ length (m.stock i)

-- the board d stands in the offers o with what is beside them, in the ends e, and in what its marking says of actions and stocks, none of which is over its upper
pub record Stands (t : List ℕ) (d : Board) (o : Offers) (e : Ends) (runs stock : List ℕ) : Type 0 where
  pub beside : Beside
  pub trees : List Offer
  pub seated : Seated t d (rows_of o beside) trees e
  pub told : MarkingTold t d.current runs stock
  pub roomy : (i : ℕ) → length (d.current.stock i) ≤ upper t i

-- ---- rule 1
module _ (foes makers : List ℕ) where
  -- ends k and j compete
  abbrev pub rival : ℕ → ℕ → Bool
  rival k j = not (eqb j k) && words_clash (at foes k) (at makers k) (at foes j) (at makers j)

  -- end k competes with a taken one
  unfoldable pub rivalled : ℕ → ℕ → ℕ → Bool
  rivalled n c k = any (λ j. has c j && rival k j) (below n)

  unfoldable pub first_rivalled : ℕ → ℕ → Option ℕ
  first_rivalled n c = lowest (λ k. has c k && rivalled n c k) n

-- ---- rule 2
-- row y is a maker of a taken end
unfoldable pub makes : List ℕ → ℕ → ℕ → ℕ → Bool
makes makers n c y = any (λ k. has c k && has (at makers k) y) (below n)

-- rows y and z leave the same node and were made from an offer in common
abbrev pub siblings : List ℕ → List ℕ → ℕ → ℕ → Bool
siblings node parents y z = eqb (at node y) (at node z) && not (eqb (bit_and (at parents y) (at parents z)) 0)

module _ (node parents makers : List ℕ) (rows n c : ℕ) where
  -- if a sibling of row z is a maker of a taken end, so is z
  unfoldable pub kept : ℕ → Bool
  kept z = any (λ y. siblings node parents y z && makes makers n c y) (below rows) ⇒ makes makers n c z

  unfoldable pub passed : ℕ → Bool
  passed i = all (λ z. eqb (at node z) i ⇒ kept z) (below rows)

  unfoldable pub forks : List ℕ → Option ℕ
  forks t = lowest (λ i. is_fork (kind t i) && not (passed i)) (nodes t)

-- ---- rule 3
-- how many taken ends have x in a column
unfoldable pub seats : List ℕ → ℕ → ℕ → ℕ → ℕ
seats column n c x = count (λ k. has c k && eqb (at column k) x) (below n)

-- a taken end belongs to node i
unfoldable pub served : List ℕ → List ℕ → ℕ → ℕ → ℕ → Bool
served target home n c i = any (λ k. has c k && (eqb (at target k) i || eqb (at home k) i)) (below n)

module _ (t edge target home runs stock : List ℕ) (n c : ℕ) where
  unfoldable pub action_fits : ℕ → Bool
  action_fits i =
      eqb (at runs i) 0 && all (λ e. eqb (seats edge n c e) 1) (into t i)
      && all (λ p. within (lower t p) (upper t p) (seats target n c p)) (inputs t i)

  unfoldable pub fits : ℕ → Bool
  fits i =
      (is_action (kind t i) && served target home n c i ⇒ action_fits i)
      && (is_buffer (kind t i) || is_outgoing (kind t i) ⇒ leb (at stock i + seats target n c i) (upper t i))

  unfoldable pub homes : Option ℕ
  homes = lowest (λ i. not (fits i)) (nodes t)

-- ---- all of them
-- the rules on choices, in the paper's order and words: no rivals are taken together, forks are passed whole, destinations fit
unfoldable pub no_rivals : List ℕ → List ℕ → ℕ → ℕ → Bool
no_rivals foes makers n c = all (λ k. not (has c k && rivalled foes makers n c k)) (below n)

unfoldable pub forks_whole : List ℕ → List ℕ → List ℕ → List ℕ → ℕ → ℕ → ℕ → Bool
forks_whole t node parents makers rows n c = all (λ i. not (is_fork (kind t i) && not (passed node parents makers rows n c i))) (below (nodes t))

unfoldable pub destinations_fit : List ℕ → List ℕ → List ℕ → List ℕ → List ℕ → List ℕ → ℕ → ℕ → Bool
destinations_fit t edge target home runs stock n c = all (fits t edge target home runs stock n c) (below (nodes t))

module _ (t : List ℕ) (o : Offers) (e : Ends) (runs stock : List ℕ) where
  abbrev pub row_tests : List (ℕ → Bool)
  row_tests =
      no_rivals e.foes e.makers e.count
      ∷ forks_whole t o.node o.parents e.makers o.count e.count
      ∷ destinations_fit t e.edge e.target e.home runs stock e.count ∷ []

  -- the choice c is acceptable
  unfoldable pub allowed : ℕ → Bool
  allowed c = all (λ rule. rule c) row_tests
