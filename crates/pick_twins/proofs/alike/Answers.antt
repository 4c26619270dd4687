-- `alike`: both ends are in the set, or neither. Assumes nothing.
use mathlib.Core.Path.{sym, ◌∙◌}
use Rattle.pick_twins.proofs.Telling.{same_in, same_out}
use borrow.Author.Rules.{rules}
use Rattle.pick_twins.proofs.alike.Goals as goal

pub returns-then-meets : goal.returns-then-meets
returns-then-meets c = let a = c.args in
    let e = c.end_of in
    same_in a.c a.k a.ends e.result e.ensures (search rules) (sym c.meets.ensures ∙ c.if-meets.true)

pub returns : goal.returns
returns c = let a = c.args in
    let e = c.end_of in
    same_out a.c a.k a.ends e.result e.ensures (search rules) (sym c.meets.ensures ∙ c.if-meets.false)
    c.without.result c.without.ensures
