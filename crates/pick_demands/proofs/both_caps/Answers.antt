-- `both_caps`: what two caps leave of all their ends. Assumes nothing.
use Rattle.pick_demands.proofs.Demands.{caps_both}
use Rattle.pick_demands.proofs.both_caps.Goals as goal

pub returns : goal.returns
returns c = let a = c.args in
    λ p b f g. caps_both p b a.all.ends a.all.most a.rule.only a.rule.hi f g
