-- `ends_masks::words_of` meets its contract: the loop has taken the cells of the ends below k. Assumes nothing.
use mathlib.Core.Path.{◌≡◌}
use Prim.Native.Nat.{ℕ, ◌<◌}
use lib.ListN.{length}
use Rattle.paper.specs.Lists.{at}
use Rattle.paper.specs.Limits.{limits}
use Rattle.offers.specs.Rows.{cell}
use Rattle.ends_masks.proofs.words_of.Given as goal

abbrev pub invariant-loop-k : goal.invariant-loop-k
invariant-loop-k l = (length l.to ≡ limits.most_ends) × ((j : ℕ) → j < l.k → at l.to j ≡ cell l.rows (at l.ends j) l.i)
