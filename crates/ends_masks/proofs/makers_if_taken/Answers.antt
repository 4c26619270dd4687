use borrow.Author.Tests.{eq-eqb}
use Rattle.ends_masks.proofs.Masks.{makes-not}
use Rattle.ends_masks.proofs.makers_if_taken.Goals as goal

pub returns-then-c-k-ne1 : goal.returns-then-c-k-ne1
returns-then-c-k-ne1 c = λ y. makes-not _ _ _ y c.if-c-k-ne1.true

pub returns : goal.returns
returns c = λ y. simp (eq-eqb _ _ c.if-c-k-ne1.false)
