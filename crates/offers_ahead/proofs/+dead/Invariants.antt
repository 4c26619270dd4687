-- `offers_ahead::dead` meets its contract: by recursion on depth; the loop has tried the offers below i of edge k. Assumes nothing.
use Rattle.std.proofs.Common.{◌≡◌, ℕ, ◌<◌, true, false}
use Rattle.paper.specs.Lists.{has}
use Rattle.offers_ahead.proofs.Laws.{After}
use Rattle.offers_ahead.proofs.+dead.Given as goal

abbrev pub decreases-dead : goal.decreases-dead
decreases-dead l = l.depth

abbrev pub invariant-loop-i : goal.invariant-loop-i
invariant-loop-i l = (j : ℕ) → j < l.i → has l.s j ≡ true → has l.blocked j ≡ false → After l.rivals l.edges l.count l.from l.to l.u l.blocked j
