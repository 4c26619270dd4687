-- `fill`: what is taken is all that may be. Assumes nothing.
use Rattle.pick_bounds.proofs.Pruning.{filled}
use Rattle.pick_bounds.proofs.fill.Goals as goal

pub returns : goal.returns
returns c = let a = c.args in
    filled a.ends a.b a.most c.without.result (c.is_full.ensures c.if-not-is_full.false) c.without.ensures c.strike.result c.strike.ensures
