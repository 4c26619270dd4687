-- `meets`: an and that is not 0 has an end of both. Assumes nothing.
use Rattle.pick_bounds.proofs.Sets.{meets_word}
use borrow.Author.Rules.{rules}
use Rattle.pick_bounds.proofs.meets.Goals as goal

pub returns : goal.returns
returns c = meets_word 32 c.args.c c.args.d (search rules)
