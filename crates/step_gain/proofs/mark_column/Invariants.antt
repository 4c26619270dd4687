-- `mark_column`: one end after the other. The invariant: the marks are those that stood there and those of the ends passed. Assumes nothing.
use mathlib.Core.Path.{◌≡◌}
use mathlib.Core.Bool.{Bool, ◌||◌}
use Prim.Native.Nat.{ℕ, ◌≤◌}
use lib.ListN.{length}
use Rattle.paper.specs.Lists.{at, has}
use Rattle.words.specs.Marks.{MarksOf, placed}
use Rattle.step_gain.proofs.mark_column.Given as goal

abbrev pub invariant-loop-k : goal.invariant-loop-k
invariant-loop-k l =
    (length l.marks ≡ length l.initial.marks)
    × ((p : ℕ → Bool) (most : ℕ) → most ≤ length l.initial.marks → MarksOf p most l.initial.marks → MarksOf (λ i. p i || placed (has l.c) (at l.column) l.k i) most l.marks)
