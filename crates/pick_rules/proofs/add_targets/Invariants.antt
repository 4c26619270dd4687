-- `pick_rules::add_targets` meets its contract: the rows say what they must of the targets of the ends below k. Assumes nothing.
use mathlib.Core.List.{List}
use Prim.Native.Nat.{ℕ, ◌+◌, ◌≤◌}
use Rattle.choice_masks.specs.Masks.{Masks}
use Rattle.pick_rules.specs.Rules.{AddedUpto, target_row}
use Rattle.pick_rules.proofs.add_targets.Given as goal

abbrev pub invariant-loop-k : goal.invariant-loop-k
invariant-loop-k l = (l.r ≤ l.count + l.k) × ((byEdge edge home runs : List ℕ) → Masks l.table edge l.target home l.n byEdge l.by_target l.by_home → AddedUpto l.initial.net l.count l.net l.r l.n (target_row l.t l.target home runs l.stock l.n) l.k)
