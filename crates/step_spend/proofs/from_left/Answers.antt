-- `from_left`: one value on where the oldest goes. Assumes nothing.
use mathlib.Core.Path.{sym, ◌∙◌}
use Rattle.step_spend.proofs.from_left.Goals as goal

pub returns-then-oldest_goes : goal.returns-then-oldest_goes
returns-then-oldest_goes c = c.second_value.ensures ∙ sym (rw (sym c.oldest_goes.ensures ∙ c.if-oldest_goes.true))

pub returns : goal.returns
returns c = sym (rw (sym c.oldest_goes.ensures ∙ c.if-oldest_goes.false))
