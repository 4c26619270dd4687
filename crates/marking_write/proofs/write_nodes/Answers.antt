-- `write_nodes` stores the nodes' fields as one run. The invariant: the fields passed are stored, and the next starts where they end. Assumes nothing.
use mathlib.Core.Path.{refl}
use Rattle.wire.specs.Totals.{total}
use borrow.Author.Rules.{rules}
use Rattle.marking_write.proofs.WritingLaws.{size_same, node-inside, node-run}
use Prim.Native.Nat.{◌<◌}
use native.Mathlib.Omega.{arith}
use Rattle.paper.specs.Table.{nodes}
use Rattle.marking_held.specs.MarkingHeld.{Held}
use Rattle.wire.proofs.Runs.{total-more, total-room}
use Rattle.marking_write.specs.Writing.{nodes_held, node_size}
use Rattle.marking_write.proofs.write_nodes.Goals as goal

pub write_node-to-requires : goal.write_node-to-requires
write_node-to-requires c =
    let held : Held =
    let a = c.args in nodes_held a.from.now a.kept.now a.place.now a.more.now a.runs.now in
    let a = c.args in
    let l = c.loop-i in
    let h : l.i < nodes a.t.now = omega (arith, c.requires.0.nodes-read, c.loop-i-test.true) in
    let k = c.kind.ensures.0 in
    let e = size_same a.t.now a.kept.now a.more.now l.i k refl refl refl in (
      node-inside a.t.now a.old.now a.extra.now held c.requires.2 l.i h k,
      omega (arith, e, l.invariant.0, l.invariant.1, c.requires.3, total-room (node_size a.t.now a.kept.now a.more.now) l.i (nodes a.t.now) h),
    )

pub loop-i-preserved : goal.loop-i-preserved
loop-i-preserved c =
    let held : Held =
    let a = c.args in nodes_held a.from.now a.kept.now a.place.now a.more.now a.runs.now in
    let a = c.args in
    let l = c.loop-i in
    let w = c.write_node-to in
    let h : l.i < nodes a.t.now = omega (arith, c.requires.0.nodes-read, c.loop-i-test.true) in
    let k = c.kind.ensures.0 in
    let e = size_same a.t.now a.kept.now a.more.now l.i k refl refl refl in (
      omega (arith, e, w.ensures.0, l.invariant.0, total-more (node_size a.t.now a.kept.now a.more.now) l.i),
      omega (arith, w.auto, l.invariant.1),
      node-run a.t.now a.old.now a.extra.now held c.requires.2 l.i h k a.out.now l.invariant.0 l.invariant.2 w.ensures.1,
    )

pub loop-i-init : goal.loop-i-init
unfolding total
loop-i-init c = search rules
