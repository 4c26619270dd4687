-- `losing_nodes`: one edge after the other. The invariant: the marks are those of the edges passed. Assumes nothing.
use mathlib.Core.Path.{◌≡◌}
use mathlib.Core.Bool.{Bool}
use Prim.Native.Nat.{ℕ}
use lib.ListN.{length}
use Rattle.paper.specs.Limits.{limits}
use Rattle.paper.specs.Table.{source}
use Rattle.words.specs.Marks.{MarksOf, placed}
use Rattle.step_spend.proofs.losing_nodes.Given as goal

abbrev pub invariant-loop-e : goal.invariant-loop-e
invariant-loop-e l =
    (length l.losing ≡ limits.most_nodes)
    × ((p : ℕ → Bool) → MarksOf p limits.most_edges l.spent → MarksOf (placed p (source l.t) l.e) limits.most_nodes l.losing)
