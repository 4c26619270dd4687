-- `ends_masks::all_makers` meets its contract: the word has the makers of the taken ends below k. Assumes nothing.
use mathlib.Core.Path.{◌≡◌}
use Prim.Native.Nat.{ℕ}
use Rattle.paper.specs.Lists.{has}
use Rattle.ends_masks.specs.Seating.{makes}
use Rattle.ends_masks.proofs.all_makers.Given as goal

abbrev pub invariant-loop-k : goal.invariant-loop-k
invariant-loop-k l = (y : ℕ) → has l.w y ≡ makes l.makers l.k l.c y
