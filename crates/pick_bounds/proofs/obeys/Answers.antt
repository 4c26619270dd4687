-- `obeys`: by its tests. Assumes nothing.
use mathlib.Core.Path.{sym, ◌∙◌}
use native.Mathlib.Omega.{arith}
use Rattle.pick_bounds.proofs.Rules.{obeys-apart, obeys-short, obeys-free, obeys-full}
use Rattle.pick_bounds.proofs.obeys.Goals as goal

pub returns-then-not-meets : goal.returns-then-not-meets
returns-then-not-meets c = let a = c.args in
    sym (obeys-apart 32 a.rule a.c (sym c.meets.ensures ∙ c.if-not-meets.true))

pub returns-then-not-has_least : goal.returns-then-not-has_least
returns-then-not-has_least c = let a = c.args in
    sym (obeys-short 32 a.rule a.c (sym c.meets.ensures ∙ c.if-not-meets.false) (sym c.has_least.ensures ∙ c.if-not-has_least.true))

pub returns-then-rule-ge-ALL : goal.returns-then-rule-ge-ALL
returns-then-rule-ge-ALL c = let a = c.args in
    sym (obeys-free a.rule a.c (sym c.meets.ensures ∙ c.if-not-meets.false) (sym c.has_least.ensures ∙ c.if-not-has_least.false) (omega (arith, c.if-rule-ge-ALL.true)))

pub returns : goal.returns
returns c = let a = c.args in
    sym (obeys-full 32 a.rule a.c (sym c.meets.ensures ∙ c.if-not-meets.false) (sym c.has_least.ensures ∙ c.if-not-has_least.false) _ c.held.ensures)
