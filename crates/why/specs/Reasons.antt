-- What is asked about a board level by level, and the ends with the targets and homes of one node's own only. Assumes nothing.
use Rattle.std.specs.Prelude.{ℕ, ◌<◌, ◌≡◌, Bool, true, false, cond, List, [], ◌∷◌, eqb}
use Rattle.paper.specs.Lists.{at}
use Rattle.paper.specs.Choices.{Board}
use Rattle.paper.specs.Operations.{SomeLeft, NoneLeft}
use Rattle.offers.specs.declared.Offers.{Offers}
use Rattle.ends_masks.specs.Seating.{EndsFull, Stands, destinations_fit, no_rivals, forks_whole}
use Rattle.ends_masks.specs.declared.Ends.{Ends}

-- P holds of every board that stands in these values: what is kept says of each node its stock, or whether it runs
abbrev pub OnBoard : List ℕ → Offers → Ends → List ℕ → (Board → Type 0) → Type 0
OnBoard t o e kept P = (d : Board) → Stands t d o e kept kept → P d

-- what the levels past the first ask, if the targets and homes are those of the node's own ends
abbrev pub asks : List ℕ → Offers → Ends → List ℕ → List ℕ → List (ℕ → Bool)
asks t o e runs stock =
    destinations_fit t e.edge e.target e.home runs stock e.count
    ∷ no_rivals e.foes e.makers e.count
    ∷ forks_whole t o.node o.parents e.makers o.count e.count ∷ []

-- the entries of a column where `home` has x, and 255 elsewhere
pub record OwnOnly (column home : List ℕ) (n x : ℕ) (r : List ℕ) : Type 0 where
  pub says : (k : ℕ) → k < n → at r k ≡ cond (eqb (at home k) x) (at column k) 255

-- the ends r are e, but that those whose home isn't x have no target and no home
pub record OwnEnds (e : Ends) (x : ℕ) (r : Ends) : Type 0 where
  pub full : EndsFull r
  pub edges_stay : r.edge ≡ e.edge
  pub makers_stay : r.makers ≡ e.makers
  pub foes_stay : r.foes ≡ e.foes
  pub count_stays : r.count ≡ e.count
  pub targets_own : OwnOnly e.target e.home e.count x r.target
  pub homes_own : OwnOnly e.home e.home e.count x r.home

-- ---- of what is asked level by level: whether one of all sets of m ends is left at level k
abbrev pub Whether : List (ℕ → Bool) → ℕ → ℕ → Bool → Type 0
Whether asked m k true = SomeLeft asked m k
Whether asked m k false = NoneLeft asked m k
