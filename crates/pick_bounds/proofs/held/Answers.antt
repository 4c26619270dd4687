-- `held`: the ones of an and are what two sets have in common. Assumes nothing.
use Rattle.pick_bounds.proofs.Sets.{held_word}
use borrow.Author.Rules.{rules}
use Rattle.pick_bounds.proofs.held.Goals as goal

pub returns : goal.returns
returns c = held_word 32 c.args.c c.args.d (search rules)
