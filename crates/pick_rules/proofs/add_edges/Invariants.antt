-- `pick_rules::add_edges` meets its contract: the rows say what they must of the edges of the ends below k. Assumes nothing.
use mathlib.Core.List.{List}
use Prim.Native.Nat.{ℕ, ◌+◌, ◌≤◌}
use Rattle.choice_masks.specs.Masks.{Masks}
use Rattle.pick_rules.specs.Rules.{AddedUpto, edge_row}
use Rattle.pick_rules.proofs.add_edges.Given as goal

abbrev pub invariant-loop-k : goal.invariant-loop-k
invariant-loop-k l = (l.r ≤ l.count + l.k) × ((target home : List ℕ) → Masks l.table l.edge target home l.n l.by_edge l.by_target l.by_home → AddedUpto l.initial.net l.count l.net l.r l.n (edge_row l.t l.edge target home l.n) l.k)
