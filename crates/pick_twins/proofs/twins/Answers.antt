-- `twins`: what each call leaves out, together. Assumes nothing.
use mathlib.Core.Path.{sym, ◌∙◌}
use native.Mathlib.Omega.{arith}
use Rattle.pick_twins.proofs.Telling.{twins_lack}
use Rattle.pick_twins.proofs.twins.Goals as goal

pub returns : goal.returns
returns c = let e = c.end_of-end in
    let a = c.args in
    twins_lack a.net.now a.want a.b a.k e.result c.without-open.result c.alike_in_rules.result c.alike-same.result
    c.alike_in_rivals.result c.with_rivals.result (omega (arith, c.if-k-ge-ENDS.false)) e.ensures
    (sym c.meets.ensures ∙ c.if-not-meets.false) (sym c.meets-2.ensures ∙ c.if-meets.false)
    c.without-open.ensures c.alike_in_rules.ensures c.alike-same.ensures c.alike_in_rivals.ensures c.with_rivals.ensures
