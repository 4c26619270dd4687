-- `without`: the digits of a difference. Assumes nothing.
use Rattle.pick_bounds.proofs.Sets.{has_without}
use Rattle.pick_bounds.proofs.without.Goals as goal

pub returns : goal.returns
returns c = has_without c.args.c c.args.d
