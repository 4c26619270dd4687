-- `pick_rules::barred_at_nodes` meets its contract: the word has what is barred at the nodes below i. Assumes nothing.
use mathlib.Core.List.{List}
use Prim.Native.Nat.{ℕ}
use Rattle.paper.specs.Lists.{below}
use Rattle.choice_masks.specs.Masks.{Masks}
use Rattle.pick_rules.specs.Rules.{on_each, BarredEnds, node_bar}
use Rattle.pick_rules.proofs.barred_at_nodes.Given as goal

abbrev pub invariant-loop-i : goal.invariant-loop-i
invariant-loop-i l = (byEdge edge target home stock : List ℕ) (n : ℕ) → Masks l.table edge target home n byEdge l.by_target l.by_home → BarredEnds n l.w (on_each (node_bar l.t target home l.runs stock n) (below l.i))
