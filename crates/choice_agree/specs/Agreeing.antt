-- Rule 3 said by masks of the ends and marks of what starts. Assumes nothing.
use Rattle.std.specs.Prelude.{Bool, not, ◌&&◌, ◌||◌, List, ℕ, ◌+◌, leb, eqb}
use Rattle.std.specs.Int.Bits.{bit_and}
use Rattle.std.specs.Int.Count.{ones}
use Rattle.paper.specs.Lists.{at, within}
use Rattle.paper.specs.Table.{kind, owner, lower, upper, target, is_action, is_input, is_buffer, is_outgoing}
use Rattle.ends_masks.specs.Seating.{served}

-- how many ends of the mask of x are taken
abbrev pub took : List ℕ → ℕ → ℕ → ℕ
took masks c x = ones (bit_and (at masks x) c)

-- node i is an action to which a taken end belongs
abbrev pub starts_in : List ℕ → List ℕ → List ℕ → ℕ → ℕ → ℕ → Bool
starts_in t target home n c i = is_action (kind t i) && served target home n c i

-- what is wrong, where s says which actions start
module _ (t : List ℕ) (s : ℕ → Bool) (c : ℕ) where
  -- edge e goes into one, and none or more than one end is taken on it
  unfoldable pub edge_wrong : List ℕ → ℕ → Bool
  edge_wrong byEdge e = s (target t e) && not (eqb (took byEdge c e) 1)

  -- p is an input pin of one, and fewer or more ends are taken at it than it wants
  unfoldable pub pin_wrong : List ℕ → ℕ → Bool
  pin_wrong byTarget p = is_input (kind t p) && s (owner t p) && not (within (lower t p) (upper t p) (took byTarget c p))

  -- node i is one that runs, or a store without room for what is taken
  unfoldable pub node_wrong : List ℕ → List ℕ → List ℕ → ℕ → Bool
  node_wrong byTarget runs stock i =
      (s i && not (eqb (at runs i) 0))
      || ((is_buffer (kind t i) || is_outgoing (kind t i)) && not (leb (at stock i + took byTarget c i) (upper t i)))
