-- `mark_nodes`: one node after the other. The invariant: the marks are those that stood there and those of the nodes passed. Assumes nothing.
use mathlib.Core.Bool.{Bool, ◌||◌}
use Prim.Native.Nat.{ℕ}
use Rattle.words.specs.Marks.{MarksOf, is_marked, placed}
use Rattle.choice_agree.specs.Agreeing.{node_wrong}
use Rattle.choice_agree.proofs.mark_nodes.Given as goal

abbrev pub invariant-loop-i : goal.invariant-loop-i
invariant-loop-i l =
    (p : ℕ → Bool) → MarksOf p l.table.nodes l.initial.unfit
    → MarksOf (λ j. p j || placed (node_wrong l.t (is_marked l.starting) l.c l.by_target l.kept l.kept) (λ x. x) l.i j) l.table.nodes l.unfit
