-- `spend_tokens`: one edge after the other. Assumes nothing.
use Rattle.words.specs.Marks.{is_marked}
use Rattle.step_spend.specs.Spending.{TokensGone}
use Rattle.step_spend.proofs.spend_tokens.Given as goal

abbrev pub invariant-loop-e : goal.invariant-loop-e
invariant-loop-e l = TokensGone (is_marked l.spent) l.initial.tokens l.tokens l.e
