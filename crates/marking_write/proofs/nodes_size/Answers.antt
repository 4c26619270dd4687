-- `nodes_size` is what the nodes' fields take. The invariant: the sum of those passed, of which none exceeds the most that a node takes. Assumes nothing.
use Rattle.wire.specs.Totals.{total}
use borrow.Author.Rules.{rules}
use Rattle.marking_write.proofs.WritingLaws.{size_same}
use native.Mathlib.Omega.{arith}
use Rattle.wire.proofs.Runs.{total-more}
use Rattle.marking_write.specs.Writing.{node_size}
use Rattle.marking_write.proofs.nodes_size.Goals as goal

pub loop-i-preserved : goal.loop-i-preserved
loop-i-preserved c = let a = c.args in
    let l = c.loop-i in
    let e = size_same a.t.now a.kept.now a.more.now l.i c.kind.ensures.0
    c.wide.ensures.0 c.wide-in-loop-i.ensures.0 c.node_size-taken.ensures.0 in
    (omega (arith, e, total-more (node_size a.t.now a.kept.now a.more.now) l.i), omega (arith, c.node_size-taken.ensures.1))

pub loop-i-init : goal.loop-i-init
unfolding total
loop-i-init c = search rules
