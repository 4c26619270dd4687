-- `with_rivals`: the invariant says that what is kept has end k's rivals, and that what is left is of `ends`. Assumes nothing.
use mathlib.Core.Path.{◌≡◌}
use mathlib.Core.Bool.{true}
use Prim.Native.Nat.{ℕ}
use Rattle.paper.specs.Lists.{has}
use Rattle.pick_twins.specs.Twins.{SharesRivals}
use Rattle.pick_twins.proofs.Telling.{Only}
use Rattle.pick_twins.proofs.with_rivals.Given as goal

abbrev pub invariant-loop-left : goal.invariant-loop-left
invariant-loop-left l = ((j : ℕ) → has l.left j ≡ true → has l.ends j ≡ true) × Only (SharesRivals l.net l.k) l.ends l.kept

abbrev pub decreases-loop-left : goal.decreases-loop-left
decreases-loop-left l = l.left
