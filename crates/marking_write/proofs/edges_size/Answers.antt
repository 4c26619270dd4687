-- `edges_size` is what the edges' counts take. The invariant: the sum of those passed, of which each is at most 1. Assumes nothing.
use mathlib.Core.Path.{◌≡◌}
use native.Mathlib.Omega.{arith}
use Rattle.paper.specs.Table.{edges}
use Rattle.table.proofs.Reading.{read-spans}
use Rattle.marking_write.specs.Writing.{edge_size}
use Rattle.wire.proofs.Runs.{total-more}
use borrow.Author.Rules.{rules}
use Rattle.wire.specs.Totals.{total}
use Rattle.marking_write.proofs.edges_size.Goals as goal

pub loop-j-preserved : goal.loop-j-preserved
loop-j-preserved c = let a = c.args in
    (omega (arith, total-more (edge_size a.t.now) c.loop-j.j), omega arith)

pub returns : goal.returns
returns c = let a = c.args in
    let s = read-spans a.t.now c.requires in
    let l = c.loop-j in
    let e : l.j ≡ edges a.t.now = omega arith in
    (rw (← e) l.invariant.0, omega arith)

pub loop-j-init : goal.loop-j-init
unfolding total
loop-j-init c = search rules
