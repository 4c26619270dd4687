-- `pick_rules::barred_at_edges` meets its contract: the word has what is barred at the edges below e. Assumes nothing.
use mathlib.Core.List.{List}
use Prim.Native.Nat.{ℕ}
use Rattle.paper.specs.Lists.{below}
use Rattle.choice_masks.specs.Masks.{Masks}
use Rattle.pick_rules.specs.Rules.{on_each, BarredEnds, edge_bar}
use Rattle.pick_rules.proofs.barred_at_edges.Given as goal

abbrev pub invariant-loop-e : goal.invariant-loop-e
invariant-loop-e l = (edge target home : List ℕ) (n : ℕ) → Masks l.table edge target home n l.by_edge l.by_target l.by_home → BarredEnds n l.w (on_each (edge_bar l.t edge target home n) (below l.e))
