-- `made_from`: nothing, or the parents. Assumes nothing.
use mathlib.Core.Path.{sym, ◌∙◌}
use Rattle.paper.proofs.Digits.{has-zero}
use Rattle.choice_judge.proofs.made_from.Goals as goal

pub returns-then-not-in_word : goal.returns-then-not-in_word
returns-then-not-in_word c = λ b. has-zero b ∙ sym (rw (sym c.in_word.ensures ∙ c.if-not-in_word.true))

pub returns : goal.returns
returns c = λ b. sym (rw (sym c.in_word.ensures ∙ c.if-not-in_word.false))
