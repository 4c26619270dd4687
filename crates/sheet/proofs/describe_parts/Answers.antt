-- `describe_parts`: the sheet's word says a refusal, or the sheet stands at the front of its room.
use mathlib.Core.Path.{refl}
use native.Mathlib.Omega.{arith}
use Rattle.paper.specs.Offers.{terms, no_bounds}
use Rattle.sheet.proofs.Answers.{refusal_told, sheet-told, prints_refusal, prints_board, printed-inside}
use Rattle.sheet.proofs.describe_parts.Goals as goal

pub returns-then-number-ne0 : goal.returns-then-number-ne0
returns-then-number-ne0 c =
    let a = c.args in
    let n = c.refusal_in-number in
    let p = c.place_in in
    let e = refusal_told a.table.now a.marking.now (terms a.guards.now no_bounds) (λ i. omega (arith, c.type_inv.marking i)) refl c.sheet-shown.ensures n.result p.result n.ensures p.ensures c.if-number-ne0.true in
    let w = c.refusal_text.ensures in
    (printed-inside w, prints_refusal a.table.now a.marking.now (terms a.guards.now no_bounds) n.result p.result e w)

pub describe_board-requires : goal.describe_board-requires
describe_board-requires c =
    let a = c.args in
    let n = c.refusal_in-number in
    let l = c.length_in-n in
    ((sheet-told a.table.now a.marking.now (terms a.guards.now no_bounds) (λ i. omega (arith, c.type_inv.marking i)) refl c.sheet-shown.ensures n.result l.result n.ensures l.ensures.1 c.if-number-ne0.false).0, c.requires)

pub returns : goal.returns
returns c =
    let a = c.args in
    let n = c.refusal_in-number in
    let l = c.length_in-n in
    let x = (sheet-told a.table.now a.marking.now (terms a.guards.now no_bounds) (λ i. omega (arith, c.type_inv.marking i)) refl c.sheet-shown.ensures n.result l.result n.ensures l.ensures.1 c.if-number-ne0.false).0 in
    let w = c.describe_board.ensures x in
    (printed-inside w.printed, prints_board a.table.now a.marking.now (terms a.guards.now no_bounds) w.ks x.is-board w.allowed w.printed)
