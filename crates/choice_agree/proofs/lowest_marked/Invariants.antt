-- `lowest_marked`: one place after the other. The invariant: nothing passed is marked. Assumes nothing.
use mathlib.Core.Path.{◌≡◌}
use Prim.Native.Nat.{ℕ, ◌<◌}
use Rattle.paper.specs.Lists.{at}
use Rattle.choice_agree.proofs.lowest_marked.Given as goal

abbrev pub invariant-loop-i : goal.invariant-loop-i
invariant-loop-i l = (k : ℕ) → k < l.i → at l.marks k ≡ 0
