-- `competing_end`: where foes and makers have nothing in common nobody is asked. Assumes nothing.
use mathlib.Core.Path.{sym}
use Rattle.choice_judge.proofs.Masks.{apart_by_words}
use Rattle.choice_judge.proofs.competing_end.Goals as goal

pub returns-then-all_makers-w-eq0 : goal.returns-then-all_makers-w-eq0
returns-then-all_makers-w-eq0 c = let a = c.args in
    λ h. sym (apart_by_words a.foes.now a.makers.now a.n a.c c.all_makers.result a.w c.all_makers.ensures h (λ k l. (c.type_inv.foes k).fits) c.if-all_makers-w-eq0.true)

pub returns : goal.returns
returns c = λ h. c.rivalled_end.ensures
