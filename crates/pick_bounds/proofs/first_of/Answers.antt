-- `first_of`: trailing zeros end at a digit that is 1. Assumes nothing.
use borrow.Author.Rules.{rules}
use Rattle.pick_bounds.proofs.Sets.{first-has, first-inside}
use Rattle.pick_bounds.proofs.first_of.Goals as goal

pub returns : goal.returns
returns c = (first-inside 32 c.args.c c.requires (search rules), first-has 32 c.args.c c.requires (search rules))
