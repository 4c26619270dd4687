-- The rules by rows, and rule 2 said by the word of all makers of taken ends. Assumes nothing.
use Rattle.std.specs.Prelude.{◌≡◌, Bool, not, ◌&&◌, List, [], ◌∷◌, ℕ, ◌<◌, ltb, eqb, length}
use Rattle.std.proofs.Math.Option.{Option}
use Rattle.paper.specs.Lists.{at, has, below, all, any, lowest, ◌⇒◌}
use Rattle.paper.specs.Table.{nodes, kind, is_fork}
use Rattle.words.specs.Marks.{placed}
use Rattle.offers.specs.declared.Offers.{Offers}
use Rattle.ends_masks.specs.declared.Ends.{Ends}
use Rattle.ends_masks.specs.Seating.{siblings, first_rivalled, forks, homes}

-- the rules with their numbers, in order
module _ (t : List ℕ) (o : Offers) (e : Ends) (runs stock : List ℕ) where
  abbrev pub row_rules : List (ℕ × (ℕ → Option ℕ))
  row_rules =
      (10, first_rivalled e.foes e.makers e.count) ∷ (11, λ c. forks o.node o.parents e.makers o.count e.count c t)
      ∷ (12, homes t e.edge e.target e.home runs stock e.count) ∷ []

-- rule 2, where the word w has the makers of taken ends
module _ (node parents : List ℕ) (rows w : ℕ) where
  unfoldable pub kept_in : ℕ → Bool
  kept_in z = any (λ y. siblings node parents y z && has w y) (below rows) ⇒ has w z

  unfoldable pub passed_in : ℕ → Bool
  passed_in i = all (λ z. eqb (at node z) i ⇒ kept_in z) (below rows)

  -- node i is a fork that is not passed whole
  abbrev pub parted_at : List ℕ → ℕ → Bool
  parted_at t i = is_fork (kind t i) && not (passed_in i)

  unfoldable pub forks_in : List ℕ → Option ℕ
  forks_in t = lowest (parted_at t) (nodes t)

  -- row z leaves a fork and is left out, where a sibling of it is not
  unfoldable pub left_out : List ℕ → ℕ → Bool
  left_out t z = ltb (at node z) (nodes t) && is_fork (kind t (at node z)) && not (kept_in z)

-- for each node, the word of what the rows of w below j that leave it were made from
pub record PassedOn (node parents : List ℕ) (w j : ℕ) (passed : List ℕ) : Type 0 where
  pub digits : (i : ℕ) → i < length passed → (b : ℕ) → has (at passed i) b ≡ placed (λ y. has w y && has (at parents y) b) (at node) j i
