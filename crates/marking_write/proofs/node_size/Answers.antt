-- `node_size` is what a node's field takes, by the node's kind. Assumes nothing.
use mathlib.Core.Path.{sym, ◌∙◌}
use native.Mathlib.Omega.{arith}
use borrow.Author.Tests.{eq-eqb, ne_eqb}
use Rattle.marking_write.proofs.WritingLaws.{stock-size, runs-size, no_size}
use Rattle.marking_write.proofs.node_size.Goals as goal

pub returns-then-is_object_node : goal.returns-then-is_object_node
returns-then-is_object_node c = let a = c.args in
    (omega (arith, stock-size a.k a.values (sym c.is_object_node.ensures ∙ c.if-is_object_node.true)), omega arith)

pub returns-then-k-eq-ACTION : goal.returns-then-k-eq-ACTION
returns-then-k-eq-ACTION c = let a = c.args in
    (sym (runs-size a.k a.values (sym c.is_object_node.ensures ∙ c.if-is_object_node.false) (eq-eqb _ 2 c.if-k-eq-ACTION.true)), omega arith)

pub returns : goal.returns
returns c = let a = c.args in
    (sym (no_size a.k a.values (sym c.is_object_node.ensures ∙ c.if-is_object_node.false) (ne_eqb _ 2 c.if-k-eq-ACTION.false)), omega arith)
