-- `alike_but`: end i is added, of which nothing is said. Assumes nothing.
use Rattle.pick_twins.proofs.Telling.{same_but}
use Rattle.pick_twins.proofs.alike_but.Goals as goal

pub returns : goal.returns
returns c = let a = c.args in
    same_but a.rivals a.k a.i a.ends c.alike.result c.end_of.result c.end_of.ensures c.alike.ensures
