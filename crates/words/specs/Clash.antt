-- Clashing, in numbers and words. Assumes nothing.
use Rattle.std.specs.Prelude.{ℕ, Bool, not, ◌&&◌, ◌||◌, eqb}
use Rattle.std.specs.Int.Bits.{bit_and}
use Rattle.paper.specs.Table.{is_object_node, is_decision, is_join}

-- two offers of a join, from the offers a and b: these differ, and those of them in c don't
abbrev pub one_round_in : ℕ → ℕ → ℕ → Bool
one_round_in a b c = not (eqb a b) && eqb (bit_and a c) (bit_and b c)

-- an offer that leaves node n, of kind k, from the offers a, clashes with one that leaves node m from b; c has the offers on control edges
abbrev pub hit : ℕ → ℕ → ℕ → ℕ → ℕ → ℕ → Bool
hit n k a m b c = eqb n m && (is_object_node k || (not (eqb (bit_and a b) 0) && (is_decision k || (is_join k && not (one_round_in a b c)))))
