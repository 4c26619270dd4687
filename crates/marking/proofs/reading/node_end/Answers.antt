-- `node_end` reads a node's field: a stock, a running byte, or nothing. Assumes nothing.
use mathlib.Core.Path.{◌≡◌, sym, ap, ◌∙◌}
use mathlib.Core.Bool.{true, false}
use lib.ListN.{drop}
use native.Mathlib.Omega.{arith}
use borrow.Author.Tests.{eq-eqb, ne_eqb}
use Rattle.paper.specs.Table.{kind, is_object_node, is_action}
use Rattle.marking.proofs.Laws.{stock_reads, runs_reads, no_field}
use Rattle.marking.proofs.reading.node_end.Goals as goal

pub returns-then-is_object_node : goal.returns-then-is_object_node
returns-then-is_object_node c = let a = c.args in
    let k = c.kind-k.ensures.0 in
    let o : is_object_node (kind a.t.now a.i) ≡ true = ap is_object_node (sym k) ∙ sym c.is_object_node.ensures ∙ c.if-is_object_node.true in
    λ m. stock_reads a.t.now a.i m c.stock_end.result a.b.now (drop a.from a.b.now) o (rw (← c.upper.ensures.0) c.stock_end.ensures)

pub returns-then-k-eq-ACTION : goal.returns-then-k-eq-ACTION
returns-then-k-eq-ACTION c = let a = c.args in
    let k = c.kind-k.ensures.0 in
    let o : is_object_node (kind a.t.now a.i) ≡ false = ap is_object_node (sym k) ∙ sym c.is_object_node.ensures ∙ c.if-is_object_node.false in
    let n : is_action (kind a.t.now a.i) ≡ true = eq-eqb _ 2 (sym k ∙ c.if-k-eq-ACTION.true) in
    λ m. runs_reads a.t.now a.i m c.byte_end.result a.b.now (drop a.from a.b.now) o n c.byte_end.ensures

pub returns : goal.returns
returns c = let a = c.args in
    let k = c.kind-k.ensures.0 in
    let o : is_object_node (kind a.t.now a.i) ≡ false = ap is_object_node (sym k) ∙ sym c.is_object_node.ensures ∙ c.if-is_object_node.false in
    let n : is_action (kind a.t.now a.i) ≡ false = ne_eqb _ 2 (λ e. c.if-k-eq-ACTION.false (k ∙ e)) in
    λ m. (m, no_field a.t.now a.i m (drop a.from a.b.now) o n, omega arith)
