-- `is_rivalled`: the end is taken, and so is one of its rivals. Assumes nothing.
use mathlib.Core.Path.{◌∙◌}
use Rattle.ends_masks.specs.Seating.{rivalled}
use Rattle.choice_agree.proofs.Masks.{stops, goes_on}
use Rattle.choice_judge.proofs.Masks.{rivalled_mask}
use Rattle.choice_judge.proofs.is_rivalled.Goals as goal

pub returns-then-not-is_taken : goal.returns-then-not-is_taken
returns-then-not-is_taken c = let a = c.args in stops c.is_taken.ensures (rivalled a.foes.now a.makers.now a.n a.c a.k) c.if-not-is_taken.true

pub returns : goal.returns
returns c = let a = c.args in rivalled_mask a.foes.now a.makers.now a.n a.c a.k _ c.rivals.ensures ∙ goes_on c.is_taken.ensures (rivalled a.foes.now a.makers.now a.n a.c a.k) c.if-not-is_taken.false
