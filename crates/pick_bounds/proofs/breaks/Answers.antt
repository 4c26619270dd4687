-- `breaks`: too few are left, or too many are taken. Assumes nothing.
use mathlib.Core.Path.{sym, ◌∙◌}
use native.Mathlib.Omega.{arith}
use borrow.Author.Tests.{ltb-true}
use Rattle.pick_bounds.proofs.Pruning.{breaks_low, breaks_high}
use Rattle.pick_bounds.proofs.breaks.Goals as goal

pub returns-then-not-has_least : goal.returns-then-not-has_least
returns-then-not-has_least c = λ e. let a = c.args in
    breaks_low a.rule a.b (sym c.has_least.ensures ∙ c.if-not-has_least.true)

pub returns : goal.returns
returns c = λ e. let a = c.args in
    let l = ltb-true a.rule.hi c.held.result e in
    let q = c.held.ensures in
    breaks_high a.rule a.b (omega arith)
