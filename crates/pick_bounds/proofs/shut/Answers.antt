-- `shut`: no set that obeys the rule can meet it, or have more of its ends. Assumes nothing.
use Rattle.pick_bounds.proofs.Pruning.{shutting, shutting_full}
use Rattle.pick_bounds.proofs.shut.Goals as goal

pub returns-then-breaks : goal.returns-then-breaks
returns-then-breaks c = let a = c.args in
    shutting a.rule a.b (c.breaks.ensures c.if-breaks.true) c.strike.result c.strike.ensures

pub returns : goal.returns
returns c = let a = c.args in
    shutting_full a.rule a.b c.without.result (c.is_full.ensures c.if-not-is_full.false) c.without.ensures c.strike-2.result c.strike-2.ensures
