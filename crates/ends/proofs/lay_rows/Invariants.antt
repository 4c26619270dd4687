-- `ends::lay_rows` meets its contract: the loop has laid the rows of the ends below k. Assumes nothing.
use mathlib.Core.Path.{◌≡◌}
use Prim.Native.Nat.{ℕ, ◌<◌}
use Rattle.paper.specs.Lists.{at}
use Rattle.ends.proofs.lay_rows.Given as goal

abbrev pub invariant-loop-k : goal.invariant-loop-k
invariant-loop-k l = (j : ℕ) → j < l.k → at l.ends j ≡ at l.found (at l.slots j)
