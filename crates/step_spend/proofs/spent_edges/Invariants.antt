-- `spent_edges`: one row after the other. The invariant: the marks are those of the rows passed. Assumes nothing.
use mathlib.Core.Path.{◌≡◌}
use mathlib.Core.Bool.{◌&&◌}
use lib.Dec.{eqb}
use lib.ListN.{length}
use Rattle.paper.specs.Lists.{at, has}
use Rattle.paper.specs.Limits.{limits}
use Rattle.words.specs.Marks.{MarksOf, placed}
use Rattle.step_spend.proofs.spent_edges.Given as goal

abbrev pub invariant-loop-y : goal.invariant-loop-y
invariant-loop-y l =
    (length l.spent ≡ limits.most_edges) × MarksOf (placed (λ y. has l.w y && eqb (at l.parents y) 0) (at l.last) l.y) limits.most_edges l.spent
