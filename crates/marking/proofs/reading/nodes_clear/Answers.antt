-- `nodes_clear`: every node of an ended marking is clear, one after the other. Assumes nothing.
use mathlib.Core.Path.{sym, ◌∙◌}
use native.Mathlib.Omega.{arith}
use Rattle.paper.specs.Table.{nodes}
use Rattle.marking.specs.Reading.{node_clear}
use Rattle.paper.proofs.Lists.{below_all, all_fails}
use Rattle.table.proofs.Reading.{read-spans}
use Rattle.marking.proofs.reading.nodes_clear.Goals as goal

pub returns-then-not-node_clear : goal.returns-then-not-node_clear
returns-then-not-node_clear c = let t = c.args.t.now in
    let n = read-spans t c.requires.0 in
    λ m b f h. sym (all_fails (node_clear t m) (nodes t) c.loop-i.i (omega arith) (sym (c.node_clear.ensures m b f h) ∙ c.if-not-node_clear.true))

pub returns : goal.returns
returns c = let t = c.args.t.now in
    let n = read-spans t c.requires.0 in
    λ m b f h. sym (below_all (node_clear t m) (nodes t) (λ k l. c.loop-i.invariant m b f h k (omega arith)))
