-- `bad_node` finds the lowest node that row 2 refuses. Assumes nothing.
use mathlib.Core.Path.{◌∙◌, sym}
use native.Mathlib.Omega.{arith}
use Rattle.paper.specs.Limits.{limits}
use Rattle.paper.specs.Table.{nodes, node_fine}
use Rattle.table.proofs.Reading.{fails_at, fails_nowhere}
use Rattle.table_read.proofs.bad_node.Goals as goal

pub returns-then-not-node_fine : goal.returns-then-not-node_fine
returns-then-not-node_fine c =
    let l = c.loop-i in
    let t = c.args.s.now in
    sym (fails_at (node_fine t limits) (nodes t) l.i l.invariant (sym c.node_fine.ensures ∙ c.if-not-node_fine.true) (omega arith))

pub returns : goal.returns
returns c =
    let t = c.args.s.now in
    sym (fails_nowhere (node_fine t limits) (nodes t) (λ k h. c.loop-i.invariant k (omega arith)))
