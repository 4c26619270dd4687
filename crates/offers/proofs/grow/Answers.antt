-- `offers::grow` meets its contract: the makers are itself and those handed over, the foes those handed over and the rows that clash. Assumes nothing.
use mathlib.Core.Path.{subst}
use Prim.Native.Nat.{◌+◌}
use lib.Bits.{bit_or}
use borrow.Author.Rules.{rules}
use Rattle.offers.specs.Rows.{rows_in, Pushed, entry_of}
use Rattle.offers.proofs.Rows.{grown}
use Rattle.offers.proofs.grow.Goals as goal

pub returns : goal.returns
returns c = λ t ts x b y.
    let a = c.args in
    let w = c.controls-c in
    let d = c.clashes-d.result in
    let r = rows_in a.rows.now a.count in
    let s = rows_in c.push.new.rows (a.count + 1) in
    grown t r s ts x a.onto a.worth a.paths a.parents a.makers a.foes w.result d b y w.ensures c.clashes-d.ensures
    (subst (λ z. Pushed r s (entry_of a.onto.edge a.onto.node a.worth.has a.worth.value a.paths a.parents (bit_or z a.makers) (bit_or a.foes d))) c.bit_of.ensures c.push.ensures)
    (search rules)
