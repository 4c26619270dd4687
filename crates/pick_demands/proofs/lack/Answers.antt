-- `lack`: a rule that is set off asks for what it lacks. Assumes nothing.
use Rattle.pick_demands.proofs.Demands.{asks-set_off}
use Rattle.pick_demands.proofs.lack.Goals as goal

pub returns : goal.returns
returns c = let a = c.args in
    λ free w. asks-set_off a.want a.rule a.b c.lacked.result free (c.applies.ensures c.if-not-applies.false) c.lacked.ensures w
