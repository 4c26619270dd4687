-- `pick`: what was looked for and found, as an answer. Assumes nothing.
use Rattle.pick.proofs.Laws.{fits_empty}
use Rattle.pick.proofs.pick.Goals as goal

pub returns : goal.returns
returns c = (λ d s. c.conclude.ensures.0 d s.seated.number (c.choose-found.ensures d s) (fits_empty s), c.conclude.ensures.1)
