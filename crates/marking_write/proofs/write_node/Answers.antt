-- `write_node` stores a node's field, by the node's kind. Assumes nothing.
use mathlib.Core.Path.{sym, ◌∙◌}
use Prim.Native.Nat.{◌+◌}
use native.Mathlib.Omega.{arith}
use borrow.Author.Tests.{eq-eqb, ne_eqb}
use Rattle.marking_write.proofs.WritingLaws.{stock-size, runs-size, no_size, stock-bytes, runs-bytes, no_bytes}
use Rattle.marking_write.proofs.write_node.Goals as goal

pub write_stock-requires : goal.write_stock-requires
write_stock-requires c = let a = c.args in
    let o = sym c.is_object_node.ensures ∙ c.if-is_object_node.true in
    (c.requires.0 o, omega (arith, c.requires.1, stock-size a.k (a.node.kept + a.node.more) o))

pub returns-then-is_object_node : goal.returns-then-is_object_node
returns-then-is_object_node c = let a = c.args in
    let o = sym c.is_object_node.ensures ∙ c.if-is_object_node.true in
    let w = c.write_stock.ensures in
    (omega (arith, w.0, stock-size a.k (a.node.kept + a.node.more) o), rw (stock-bytes a.k a.old.now a.extra.now a.node o) w.1)

pub bounds-out-to : goal.bounds-out-to
bounds-out-to c = let a = c.args in
    let o = sym c.is_object_node.ensures ∙ c.if-is_object_node.false in
    omega (arith, c.requires.1, runs-size a.k (a.node.kept + a.node.more) o (eq-eqb _ 2 c.if-k-eq-ACTION.true))

pub returns-then-k-eq-ACTION : goal.returns-then-k-eq-ACTION
returns-then-k-eq-ACTION c = let a = c.args in
    let o = sym c.is_object_node.ensures ∙ c.if-is_object_node.false in
    let r = eq-eqb _ 2 c.if-k-eq-ACTION.true in
    (omega (arith, runs-size a.k (a.node.kept + a.node.more) o r), rw (runs-bytes a.k a.old.now a.extra.now a.node o r))

pub returns : goal.returns
returns c = let a = c.args in
    let o = sym c.is_object_node.ensures ∙ c.if-is_object_node.false in
    let r = ne_eqb _ 2 c.if-k-eq-ACTION.false in
    (omega (arith, no_size a.k (a.node.kept + a.node.more) o r), rw (no_bytes a.k a.old.now a.extra.now a.node o r))
