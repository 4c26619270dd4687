-- `mark_edges`: one edge after the other. The invariant: the marks are those that stood there and those of the edges passed. Assumes nothing.
use mathlib.Core.Bool.{Bool, ◌||◌}
use Prim.Native.Nat.{ℕ}
use Rattle.paper.specs.Table.{target as target_of}
use Rattle.words.specs.Marks.{MarksOf, is_marked, placed}
use Rattle.choice_agree.specs.Agreeing.{edge_wrong}
use Rattle.choice_agree.proofs.mark_edges.Given as goal

abbrev pub invariant-loop-e : goal.invariant-loop-e
invariant-loop-e l = (p : ℕ → Bool) → MarksOf p l.table.nodes l.initial.unfit → MarksOf (λ i. p i || placed (edge_wrong l.t (is_marked l.starting) l.c l.by_edge) (target_of l.t) l.e i) l.table.nodes l.unfit
