-- `shun`: the invariant says that every set that passes was kept; each turn has one end less. Assumes nothing.
use mathlib.Core.Path.{sym}
use Rattle.pick_bounds.proofs.Sets.{less_left}
use borrow.Author.Rules.{rules}
use Rattle.pick_bounds.proofs.shun.Goals as goal

pub loop-left-smaller : goal.loop-left-smaller
loop-left-smaller c = less_left c.loop-left.left c.first_of-k.result c.without-left.result (search rules) c.first_of-k.ensures.1 (rw (sym c.end_of.ensures) c.without-left.ensures)

pub returns : goal.returns
returns c = c.loop-left.invariant
