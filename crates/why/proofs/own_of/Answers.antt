-- `own_of` meets its contract: a pin's action, or the node. Assumes nothing.
use mathlib.Core.Path.{sym, ap, ◌∙◌}
use Rattle.paper.specs.Table.{is_pin}
use Rattle.table.proofs.Reading.{read-spans}
use Rattle.why.proofs.Own.{own_of_pin, own_of_other}
use Rattle.why.proofs.own_of.Goals as goal

pub kind-requires : goal.kind-requires
kind-requires c = let p = c.requires in (read-spans _ p.0, p.1)

pub owner-requires : goal.owner-requires
owner-requires c = let p = c.requires in (read-spans _ p.0, p.1)

pub returns-then-is_pin : goal.returns-then-is_pin
returns-then-is_pin c =
    let a = c.args in
    c.owner.ensures.0 ∙ sym (own_of_pin a.t.now a.i (ap is_pin (sym c.kind.ensures.0) ∙ sym c.is_pin.ensures ∙ c.if-is_pin.true))

pub returns : goal.returns
returns c =
    let a = c.args in
    sym (own_of_other a.t.now a.i (ap is_pin (sym c.kind.ensures.0) ∙ sym c.is_pin.ensures ∙ c.if-is_pin.false))
