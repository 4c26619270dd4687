-- `conclude`: row 13 where nothing was found, or the choice. Assumes nothing.
use mathlib.Core.Path.{refl}
use Rattle.paper.specs.Operations.{packed}
use Rattle.wire.specs.Refusals.{word_of}
use Rattle.pick.proofs.Laws.{leaves_none, leaves_choice}
use Rattle.pick.proofs.conclude.Goals as goal

pub returns-in-None : goal.returns-in-None
returns-in-None c = (
  λ d e w f. let a = c.args in
      leaves_none d a.node f a.found c.in-None.is w (packed 13 a.node 0) a.out.now refl,
  tt,
)

pub returns-in-Some : goal.returns-in-Some
returns-in-Some c = (
  λ d e w f. let a = c.args in
      leaves_choice d a.node a.found _ a.n c.in-Some.is e w (word_of c.tell.result) a.out.now _ c.tell.ensures.0,
  c.tell.ensures.1,
)
