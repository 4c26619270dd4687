-- `spend_stocks`: one node after the other. Assumes nothing.
use Rattle.words.specs.Marks.{is_marked}
use Rattle.step_spend.specs.Spending.{OldestGone}
use Rattle.step_spend.proofs.spend_stocks.Given as goal

abbrev pub invariant-loop-i : goal.invariant-loop-i
invariant-loop-i l = OldestGone (is_marked l.losing) l.initial.from l.initial.kept l.from l.kept l.i
