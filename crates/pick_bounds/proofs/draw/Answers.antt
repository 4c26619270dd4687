-- `draw`: the rule is set off, or may be left alone. Assumes nothing.
use Rattle.pick_bounds.proofs.Pruning.{holding, heeding}
use Rattle.pick_bounds.proofs.draw.Goals as goal

pub returns-then-applies : goal.returns-then-applies
returns-then-applies c = let a = c.args in
    holding a.rule a.b a.want (c.applies.ensures c.if-applies.true) c.hold.result c.hold.ensures

pub returns : goal.returns
returns c = let a = c.args in
    heeding a.rule a.b a.want c.shut.result c.shut.ensures
