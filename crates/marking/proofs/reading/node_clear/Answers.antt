-- `node_clear`: a node is empty and idle, unless it is an outgoing parameter. Assumes nothing.
use mathlib.Core.Path.{sym, ◌∙◌}
use native.Mathlib.Omega.{arith}
use Rattle.paper.specs.Lists.{at}
use Rattle.table.proofs.Reading.{read-spans}
use Rattle.marking.proofs.Laws.{outgoing_clear, node-clear-is}
use Rattle.marking.proofs.reading.node_clear.Goals as goal

pub kind-requires : goal.kind-requires
kind-requires c = let h = c.requires in (read-spans c.args.t.now h.0, h.1)

pub returns-then-kind-eq-OUTGOING : goal.returns-then-kind-eq-OUTGOING
returns-then-kind-eq-OUTGOING c = let a = c.args in
    λ m b f n. sym (outgoing_clear a.t.now m a.i (sym c.kind.ensures.0 ∙ c.if-kind-eq-OUTGOING.true))

pub returns : goal.returns
returns c = let a = c.args in
    let z = read-spans a.t.now c.requires.0 in
    λ m b f n. sym (node-clear-is a.t.now m b a.i (at f a.i) (at a.kept.now a.i) (λ e. c.if-kind-eq-OUTGOING.false (c.kind.ensures.0 ∙ e)) (n.node a.i (omega arith)))
