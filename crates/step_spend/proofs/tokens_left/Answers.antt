-- `tokens_left`: none of a spent edge, else all. Assumes nothing.
use mathlib.Core.Path.{sym}
use borrow.Author.Tests.{eq-eqb, ne_eqb}
use Rattle.step_spend.proofs.tokens_left.Goals as goal

pub returns-then-spent-ne0 : goal.returns-then-spent-ne0
returns-then-spent-ne0 c = sym (rw (ne_eqb c.args.spent 0 c.if-spent-ne0.true))

pub returns : goal.returns
returns c = sym (rw (eq-eqb c.args.spent 0 c.if-spent-ne0.false))
