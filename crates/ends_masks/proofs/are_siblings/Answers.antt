-- `ends_masks::are_siblings` meets its contract: another node, or the test of parents. Assumes nothing.
use borrow.Author.Tests.{ne_eqb, eq-eqb}
use Rattle.ends_masks.proofs.are_siblings.Goals as goal

pub returns-then-node-y : goal.returns-then-node-y
returns-then-node-y c = simp (ne_eqb _ _ c.if-node-y.true)

pub returns : goal.returns
returns c = simp (eq-eqb _ _ c.if-node-y.false)
