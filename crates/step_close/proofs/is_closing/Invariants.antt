-- `is_closing` looks for a taken end at an activity final. Assumes nothing.
use Prim.Native.Nat.{ℕ, ◌<◌}
use mathlib.Core.Path.{◌≡◌}
use mathlib.Core.Bool.{false, ◌&&◌}
use Rattle.paper.specs.Lists.{at, has}
use Rattle.paper.specs.Table.{kind as kind_of, is_activity_final}
use Rattle.step_close.proofs.is_closing.Given as goal

abbrev pub invariant-loop-k : goal.invariant-loop-k
invariant-loop-k l = ((j : ℕ) → j < l.k → has l.c j && is_activity_final (kind_of l.t (at l.target j)) ≡ false)
