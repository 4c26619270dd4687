-- `is_first`: in the word, and made from none. Assumes nothing.
use mathlib.Core.Path.{sym, ◌∙◌}
use Rattle.step_spend.proofs.is_first.Goals as goal

pub returns-then-not-in_word : goal.returns-then-not-in_word
returns-then-not-in_word c = sym (rw (sym c.in_word.ensures ∙ c.if-not-in_word.true))

pub returns : goal.returns
returns c = sym (rw (sym c.in_word.ensures ∙ c.if-not-in_word.false))
