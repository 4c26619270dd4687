-- `find`: the entries before are below the edge. Assumes nothing.
use Prim.Native.Nat.{ℕ, ◌<◌}
use Rattle.paper.specs.Offers.{bound_edge}
use Rattle.terms.proofs.bounds.find.Given as goal

abbrev pub invariant-loop-k : goal.invariant-loop-k
invariant-loop-k l = (j : ℕ) → j < l.k → bound_edge l.x j < l.e
