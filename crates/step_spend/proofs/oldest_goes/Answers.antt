-- `oldest_goes`: marked, and not empty. Assumes nothing.
use mathlib.Core.Path.{sym}
use borrow.Author.Tests.{eq-eqb, ne_eqb}
use Rattle.step_spend.proofs.oldest_goes.Goals as goal

pub returns-then-losing-ne0 : goal.returns-then-losing-ne0
returns-then-losing-ne0 c = sym (rw (ne_eqb c.args.losing 0 c.if-losing-ne0.true))

pub returns-else-losing-ne0 : goal.returns-else-losing-ne0
returns-else-losing-ne0 c = sym (rw (eq-eqb c.args.losing 0 c.if-losing-ne0.false))
