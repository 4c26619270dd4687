-- `raise`: what is left is just enough. Assumes nothing.
use Rattle.pick_bounds.proofs.Pruning.{raised}
use Rattle.pick_bounds.proofs.raise.Goals as goal

pub returns : goal.returns
returns c = let a = c.args in
    raised a.ends a.b a.least (c.is_scarce.ensures c.if-not-is_scarce.false)
