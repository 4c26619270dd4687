-- `ends::lay_paths` meets its contract: the loop has laid the blocks below x. Assumes nothing.
use mathlib.Core.Path.{◌≡◌}
use Prim.Native.Nat.{ℕ, ◌<◌}
use Rattle.paper.specs.Lists.{at}
use Rattle.ends.specs.Slots.{laid_from}
use Rattle.ends.proofs.lay_paths.Given as goal

abbrev pub invariant-loop-x : goal.invariant-loop-x
invariant-loop-x l = (j : ℕ) → j < l.x → at l.order j ≡ at l.sorted (laid_from l.slots j)
