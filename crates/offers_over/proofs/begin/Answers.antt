-- `offers_over::begin` meets its contract: a token or a value begins as its worth. Assumes nothing.
use Rattle.offers_over.proofs.begin.Goals.{in-Token, in-Value}
use Rattle.offers_over.proofs.begin.Goals as goal

pub returns : goal.returns
returns c = elim c.match-start.branch [
  | in-Token w ↦ rw w.in-Token.is (rw w.worth-is at c.begin_one.ensures)
  | in-Value w ↦ rw w.in-Value.is (rw w.worth-is at c.begin_one.ensures)
]
