-- `lift` meets its contract. The invariant: ranks tell the chains that they told, each link passed has lifted its target, and while nothing has changed
-- the targets passed stand above their sources. Assumes nothing.
use mathlib.Core.Path.{◌≡◌}
use mathlib.Core.Bool.{false}
use Prim.Native.Nat.{ℕ, ◌-◌, ◌≤◌, ◌<◌}
use lib.ListN.{length}
use Rattle.paper.specs.Lists.{at}
use Rattle.table_ranks.specs.Chains.{AllRanked}
use Rattle.table_ranks.proofs.Chains.{Lifting, Above}
use Rattle.table_ranks.proofs.lift.Given as goal

abbrev pub invariant-loop-x : goal.invariant-loop-x
invariant-loop-x l =
    ((length l.rk ≡ length l.initial.rk)
    × ((k : ℕ) → AllRanked l.s l.initial.rk k → Lifting l.s l.links l.rk k l.x × (l.any ≡ false → (y : ℕ) → y < l.x → Above l.s l.rk (at l.links y))))
