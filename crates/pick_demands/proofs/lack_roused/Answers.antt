-- `lack_roused`: a rule that the list sets off asks for what it lacks. Assumes nothing.
use Rattle.pick_demands.proofs.Demands.{asks_roused}
use Rattle.pick_demands.proofs.lack_roused.Goals as goal

pub returns : goal.returns
returns c = let a = c.args in
    λ p free o f w. asks_roused p a.rule a.b a.list.now o c.lacked.result free f (c.rouses.ensures c.if-not-rouses.false) c.lacked.ensures w
