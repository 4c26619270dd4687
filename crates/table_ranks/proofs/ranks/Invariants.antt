-- `ranks` meets its contract. The invariant: ranks tell chains of up to k nodes. Assumes nothing.
use mathlib.Core.Path.{◌≡◌}
use Prim.Native.Nat.{◌-◌, ◌≤◌}
use lib.ListN.{length}
use Rattle.paper.specs.Limits.{limits}
use Rattle.table_ranks.specs.Chains.{AllRanked}
use Rattle.table_ranks.proofs.ranks.Given as goal

abbrev pub invariant-loop-k : goal.invariant-loop-k
invariant-loop-k l = ((length l.rk ≡ limits.most_nodes) × AllRanked l.s l.rk l.k)
