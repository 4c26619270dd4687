-- `kept_left`: one less where the oldest goes. Assumes nothing.
use mathlib.Core.Path.{sym, ◌∙◌}
use Rattle.step_spend.proofs.SpentHeld.{goes_some}
use Rattle.step_spend.proofs.kept_left.Goals as goal

pub overflow_sub-result : goal.overflow_sub-result
overflow_sub-result c = let a = c.args in
    goes_some a.losing a.kept (sym c.oldest_goes.ensures ∙ c.if-oldest_goes.true)

pub returns-then-oldest_goes : goal.returns-then-oldest_goes
returns-then-oldest_goes c = sym (rw (sym c.oldest_goes.ensures ∙ c.if-oldest_goes.true))

pub returns : goal.returns
returns c = sym (rw (sym c.oldest_goes.ensures ∙ c.if-oldest_goes.false))
