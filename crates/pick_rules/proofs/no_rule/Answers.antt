-- `pick_rules::no_rule` meets its contract: nothing meets it. Assumes nothing.
use mathlib.Core.Path.{refl}
use Rattle.pick_rules.proofs.Rows.{idle_unmet}
use Rattle.pick_rules.proofs.no_rule.Goals as goal

pub returns : goal.returns
returns c = λ m x. idle_unmet m 0 0 0 0 x refl
