use borrow.Author.Tests.{ne_eqb, eq-eqb}
use Rattle.ends_masks.proofs.are_rivals.Goals as goal

pub returns-then-j-k : goal.returns-then-j-k
returns-then-j-k c = simp (eq-eqb _ _ c.if-j-k.true)

pub returns : goal.returns
returns c = rw (ne_eqb _ _ c.if-j-k.false) c.compete.ensures
