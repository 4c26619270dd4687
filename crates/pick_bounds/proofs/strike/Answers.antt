-- `strike`: sets without these ends keep to what is left. Assumes nothing.
use Rattle.pick_bounds.proofs.Pruning.{struck}
use Rattle.pick_bounds.proofs.strike.Goals as goal

pub returns : goal.returns
returns c = let a = c.args in struck a.ends a.b c.without.result c.without.ensures
