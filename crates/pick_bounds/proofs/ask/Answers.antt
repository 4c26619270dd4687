-- `ask`: fewer are left than are wanted, or those that are. Assumes nothing.
use mathlib.Core.Path.{sym, ◌∙◌}
use Rattle.pick_bounds.specs.Bounds.{enough}
use Rattle.pick_bounds.proofs.Pruning.{keeps_nothing, asks-more}
use Rattle.pick_bounds.proofs.ask.Goals as goal

pub returns-then-not-has_least : goal.returns-then-not-has_least
returns-then-not-has_least c = let a = c.args in
    keeps_nothing (enough a.want) a.b c.none.result (asks-more a.want a.b (sym c.has_least.ensures ∙ c.if-not-has_least.true))

pub returns : goal.returns
returns c = c.raise.ensures
