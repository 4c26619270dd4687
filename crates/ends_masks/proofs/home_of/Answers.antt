-- `ends_masks::home_of` meets its contract: a pin belongs to its owner, all else to itself. Assumes nothing.
use mathlib.Core.Path.{sym}
use borrow.Author.Rules.{rules}
use Rattle.table.proofs.Reading.{read-spans, nodes_most}
use Rattle.ends_masks.proofs.home_of.Goals as goal

pub kind-requires : goal.kind-requires
kind-requires c = (read-spans _ c.requires.0, c.requires.1)

pub owner-requires : goal.owner-requires
owner-requires c = (read-spans _ c.requires.0, c.requires.1)

pub returns-then-is_pin : goal.returns-then-is_pin
returns-then-is_pin c = simp (sym c.kind.ensures.0, sym c.is_pin.ensures, c.if-is_pin.true) c.owner.ensures.0

pub overflow_cast-result-2 : goal.overflow_cast-result-2
overflow_cast-result-2 c = let m = nodes_most _ c.requires.0 in search rules

pub returns : goal.returns
returns c = simp (sym c.kind.ensures.0, sym c.is_pin.ensures, c.if-is_pin.false)
