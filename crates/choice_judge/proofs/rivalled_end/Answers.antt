-- `rivalled_end` finds the lowest taken end with a taken rival. The invariant: no end passed has one. Assumes nothing.
use mathlib.Core.Path.{sym, ◌∙◌}
use native.Mathlib.Omega.{arith}
use borrow.Author.Count.{below_more, below_none}
use Rattle.choice_judge.proofs.Masks.{apart-at, apart_nowhere}
use Rattle.choice_judge.proofs.rivalled_end.Goals as goal

pub loop-k-init : goal.loop-k-init
loop-k-init c = below_none _

pub returns-then-is_rivalled : goal.returns-then-is_rivalled
returns-then-is_rivalled c = sym (apart-at _ _ _ _ _ c.loop-k.invariant (sym c.is_rivalled.ensures ∙ c.if-is_rivalled.true) (omega arith))

pub loop-k-preserved : goal.loop-k-preserved
loop-k-preserved c = below_more _ _ c.loop-k.invariant (sym c.is_rivalled.ensures ∙ c.if-is_rivalled.false)

pub returns : goal.returns
returns c = sym (apart_nowhere _ _ _ _ (λ j h. c.loop-k.invariant j (omega arith)))
