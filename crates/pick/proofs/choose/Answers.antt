-- `choose`: the first set that passes the net is the first that is wanted. Assumes nothing.
use Rattle.pick.proofs.Laws.{found-on}
use Rattle.pick.proofs.choose.Goals as goal

pub returns : goal.returns
returns c = λ d s. found-on d _ _ s.seated.number _ (c.prepare-asked.ensures.1 d s) c.first.result c.first.ensures
