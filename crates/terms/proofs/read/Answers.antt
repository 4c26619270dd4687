-- `read`: row 7, then row 18. Assumes nothing.
use mathlib.Core.Path.{sym, ◌∙◌}
use Rattle.terms.proofs.TermLaws.{terms_7, terms_18, terms_pass}
use Rattle.terms.proofs.read.Goals as goal

pub returns-then-not-guards_fine : goal.returns-then-not-guards_fine
returns-then-not-guards_fine c = let a = c.args in sym (terms_7 a.t.now a.g.now a.x.now (sym c.guards_fine.ensures ∙ c.if-not-guards_fine.true))

pub returns-then-not-bounds_fine : goal.returns-then-not-bounds_fine
returns-then-not-bounds_fine c =
    let a = c.args in
    let g = sym c.guards_fine.ensures ∙ c.if-not-guards_fine.false in
    sym (terms_18 a.t.now a.g.now a.x.now g (sym c.bounds_fine.ensures ∙ c.if-not-bounds_fine.true))

pub returns : goal.returns
returns c =
    let a = c.args in
    let g = sym c.guards_fine.ensures ∙ c.if-not-guards_fine.false in
    sym (terms_pass a.t.now a.g.now a.x.now g (sym c.bounds_fine.ensures ∙ c.if-not-bounds_fine.false))
