-- `plus`: what two demands ask for of different ends. Assumes nothing.
use mathlib.Core.Path.{sym, ◌∙◌}
use Rattle.pick_demands.proofs.Demands.{asks_both, part_or}
use Rattle.pick_demands.proofs.plus.Goals as goal

pub returns : goal.returns
returns c = let a = c.args in
    (λ p b f g. asks_both p b a.all.ends a.all.least a.d.ends a.d.least (sym c.meets.ensures ∙ c.if-meets.false) f g, λ of f g. part_or a.all.ends a.d.ends of f g)
