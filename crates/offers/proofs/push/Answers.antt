-- `offers::push` meets its contract: the eight stores make one row, and leave the others. Assumes nothing.
use borrow.Author.Rules.{rules}
use Rattle.offers.proofs.Cells.{pushed}
use Rattle.offers.proofs.push.Goals as goal

pub returns : goal.returns
returns c = pushed c.args.rows.now c.args.count c.args.onto.edge c.args.onto.node c.args.worth.has c.args.worth.value c.args.paths c.args.parents c.args.makers c.args.foes (search rules) (search rules)
