-- What a step brings: the values that come to a node, and who runs, said of the columns of ends and of those of the marking. Assumes nothing.
use Rattle.std.specs.Prelude.{ℕ, ◌<◌, Bool, ◌&&◌, ◌||◌, cond, List, [], ◌∷◌, ◌++◌, eqb}
use Rattle.paper.specs.Lists.{at, has, below, gather}
use Rattle.paper.specs.Table.{kind, is_action}
use Rattle.paper.specs.Marking.{Marking}
use Rattle.marking.specs.Values.{ValuesNoted}
use Rattle.ends_masks.specs.Seating.{served}
use Rattle.marking_held.specs.Filling.{Filled}

-- ---- values, of ends in the word w
-- end k is of the word and goes to node i
abbrev pub goes_to : List ℕ → ℕ → ℕ → ℕ → Bool
goes_to target w i k = has w k && eqb (at target k) i

module _ (target row value : List ℕ) (w : ℕ) where
  abbrev pub brought : ℕ → ℕ → List ℕ
  brought i k = cond (goes_to target w i k) (at value (at row k) ∷ []) []

  -- the values that come to node i, in end order
  unfoldable pub coming : ℕ → ℕ → List ℕ
  coming n i = gather (brought i) (below n)

-- what comes to each of the first n nodes stands in `extra`, so many values from its place on
pub record Came (arriving : ℕ → List ℕ) (extra place more : List ℕ) (n : ℕ) : Type 0 where
  pub stand : (i : ℕ) → i < n → ValuesNoted extra (arriving i) (at place i) (at more i)

-- m with the values that come to each node, behind those that it has
abbrev pub gained_by : (ℕ → List ℕ) → Marking → Marking
gained_by arriving m = record { ended = m.ended; stock = λ i. m.stock i ++ arriving i; runs = m.runs; tokens = m.tokens }

-- ---- actions
-- node i is an action to which a taken end belongs
unfoldable pub starts : List ℕ → List ℕ → List ℕ → ℕ → ℕ → ℕ → Bool
starts t target home n c i = is_action (kind t i) && served target home n c i

-- of the first n running bytes those that p says are 1
abbrev pub Started : (ℕ → Bool) → List ℕ → List ℕ → ℕ → Type 0
Started p old new n = Filled (λ i. cond (p i) 1 (at old i)) old new n

-- m with the actions running too that p says
abbrev pub started_by : (ℕ → Bool) → Marking → Marking
started_by p m = record { ended = m.ended; stock = m.stock; runs = λ i. m.runs i || p i; tokens = m.tokens }
