-- `brings_value`: taken, and its row has a value. Assumes nothing.
use mathlib.Core.Path.{sym, ◌∙◌}
use Rattle.step_gain.proofs.brings_value.Goals as goal

pub returns-then-not-is_taken : goal.returns-then-not-is_taken
returns-then-not-is_taken c = sym (rw (sym c.is_taken.ensures ∙ c.if-not-is_taken.true))

pub returns : goal.returns
returns c = sym (rw (sym c.is_taken.ensures ∙ c.if-not-is_taken.false))
