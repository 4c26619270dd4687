-- `lacked`: what is asked for and not taken is had of the open ends. Assumes nothing.
use Rattle.pick_demands.proofs.Demands.{lacking}
use Rattle.pick_demands.proofs.lacked.Goals as goal

pub returns : goal.returns
returns c = let a = c.args in
    lacking a.ends a.least c.held-have.result a.b c.held-have.ensures
