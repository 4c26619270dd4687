-- What the arrays of row 4 hold: edges counted at each node, and actions that a pin feeds. Assumes nothing.
use Rattle.std.specs.Prelude.{ℕ, ◌+◌, ◌*◌, ◌<◌, ◌≡◌, Bool, ◌&&◌, ◌||◌, List, ◌++◌, leb, eqb, length}
use Rattle.paper.specs.Lists.{at, all, any, count}
use Rattle.paper.specs.Table.{nodes, lower, is_object, is_control, into, out, inputs}
use Rattle.words.specs.Marks.{MarksOf}
use Rattle.table_shape.specs.declared.Degrees.{Degrees}

-- how many edges of each kind enter and leave node i
pub record Counts (t : List ℕ) (i : ℕ) (d : Degrees) : Type 0 where
  pub control_in : d.into.control ≡ count (is_control t) (into t i)
  pub object_in : d.into.object ≡ count (is_object t) (into t i)
  pub control-out : d.out.control ≡ count (is_control t) (out t i)
  pub object_out : d.out.object ≡ count (is_object t) (out t i)

-- four cells a node
abbrev pub degrees_at : List ℕ → ℕ → Degrees
degrees_at cells i = record {
  into = record { control = at cells (4 * i); object = at cells (4 * i + 1) };
  out = record { control = at cells (4 * i + 2); object = at cells (4 * i + 3) };
}

abbrev pub Tallied : List ℕ → List ℕ → Type 0
Tallied t cells = (i : ℕ) → i < nodes t → Counts t i (degrees_at cells i)

-- an input pin of lower 1 or more belongs to action a
abbrev pub is_fed : List ℕ → ℕ → Bool
is_fed t a = any (λ p. leb 1 (lower t p)) (inputs t a)

abbrev pub Fed : List ℕ → List ℕ → Type 0
Fed t marks = MarksOf (is_fed t) (nodes t) marks

-- ---- row 4 by kind of node
abbrev pub of_one_kind : List ℕ → ℕ → Bool
of_one_kind t i = all (is_object t) (into t i ++ out t i) || all (is_control t) (into t i ++ out t i)

-- a decision or a fork
abbrev pub split_fine : List ℕ → ℕ → Bool
split_fine t i = eqb (length (into t i)) 1 && leb 1 (length (out t i)) && of_one_kind t i

-- a merge or a join
abbrev pub meets_in : List ℕ → ℕ → Bool
meets_in t i = leb 1 (length (into t i)) && eqb (length (out t i)) 1

abbrev pub merge_fine : List ℕ → ℕ → Bool
merge_fine t i = meets_in t i && of_one_kind t i

abbrev pub join_shape : List ℕ → ℕ → Bool
join_shape t i =
    meets_in t i && (leb (count (is_object t) (into t i)) 1 && eqb (count (is_object t) (out t i)) (count (is_object t) (into t i)))

abbrev pub action_shape : List ℕ → ℕ → Bool
action_shape t i = any (is_control t) (into t i) || is_fed t i
