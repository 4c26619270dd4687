-- `bad_edge` finds the lowest edge that row 3 refuses. Assumes nothing.
use mathlib.Core.Path.{◌∙◌, sym}
use native.Mathlib.Omega.{arith}
use Rattle.paper.specs.Table.{edges, edge_fine}
use Rattle.table.proofs.Reading.{fails_at, fails_nowhere}
use Rattle.table_read.proofs.bad_edge.Goals as goal

pub returns-then-not-edge_fine : goal.returns-then-not-edge_fine
returns-then-not-edge_fine c =
    let l = c.loop-j in
    let t = c.args.s.now in
    sym (fails_at (edge_fine t) (edges t) l.j l.invariant (sym c.edge_fine.ensures ∙ c.if-not-edge_fine.true) (omega arith))

pub returns : goal.returns
returns c =
    let t = c.args.s.now in
    sym (fails_nowhere (edge_fine t) (edges t) (λ k h. c.loop-j.invariant k (omega arith)))
