-- `applies`: an end that is taken, or all that are wanted, are among them. Assumes nothing.
use mathlib.Core.Path.{sym, ◌∙◌}
use native.Mathlib.Omega.{arith}
use borrow.Author.Tests.{eqb-true}
use Rattle.pick_bounds.proofs.Pruning.{taken-meets, wanted-meets}
use Rattle.pick_bounds.proofs.applies.Goals as goal

pub returns-then-meets : goal.returns-then-meets
returns-then-meets c = λ e. let a = c.args in
    taken-meets a.want a.when a.b (sym c.meets.ensures ∙ c.if-meets.true)

pub returns : goal.returns
returns c = λ e. let a = c.args in
    wanted-meets a.want a.when a.b (omega arith) (eqb-true _ _ e)
