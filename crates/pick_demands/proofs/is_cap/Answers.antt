-- `is_cap`: a rule's own ends set it off, or it is set off. Assumes nothing.
use mathlib.Core.Path.{refl, sym, ◌∙◌}
use mathlib.Core.Bool.{false}
use Rattle.paper.proofs.Bools.{never}
use Rattle.pick_demands.proofs.Demands.{caps_own, caps_taken, caps_roused}
use Rattle.pick_demands.proofs.is_cap.Goals as goal

pub returns-then-rule-ge-ALL : goal.returns-then-rule-ge-ALL
returns-then-rule-ge-ALL c = λ e. never false e refl

pub returns-then-rule : goal.returns-then-rule
returns-then-rule c = let a = c.args in
    λ e p o f. caps_own p a.rule a.b a.list.now o c.if-rule.true

pub returns-then-meets : goal.returns-then-meets
returns-then-meets c = let a = c.args in
    λ e p o f. caps_taken p a.rule a.b a.list.now o (sym c.meets.ensures ∙ c.if-meets.true)

pub returns : goal.returns
returns c = let a = c.args in
    λ e p o f. caps_roused p a.rule a.b a.list.now o f (c.rouses.ensures e)
