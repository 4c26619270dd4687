-- `add`: sets with the end keep to what is added. Assumes nothing.
use Rattle.pick_bounds.proofs.Pruning.{added}
use Rattle.pick_bounds.proofs.add.Goals as goal

pub returns : goal.returns
returns c = λ k e. added c.args.b c.args.end k e
