-- `write_edges` stores the edges' counts as one run. The invariant: those passed are stored, and the next starts where they end. Assumes nothing.
use Rattle.table.proofs.Reading.{read-spans}
use mathlib.Core.Path.{◌≡◌, refl}
use native.Mathlib.Omega.{arith}
use Rattle.paper.specs.Table.{edges}
use Rattle.wire.proofs.Runs.{total-more, total-room}
use Rattle.marking_write.specs.Writing.{edge_size}
use Rattle.wire.specs.Totals.{total}
use borrow.Author.Rules.{rules}
use Rattle.marking_write.proofs.WritingLaws.{edge-run}
use Rattle.marking_write.proofs.write_edges.Goals as goal

pub write_edge-to-requires : goal.write_edge-to-requires
write_edge-to-requires c = let s = read-spans c.args.t.now c.requires.0 in
    (c.requires.0, omega arith, omega (arith, total-room (edge_size c.args.t.now) c.loop-j.j (edges c.args.t.now) (omega arith)))

pub loop-j-preserved : goal.loop-j-preserved
loop-j-preserved c = let a = c.args in
    let l = c.loop-j in
    let w = c.write_edge-to in (
      omega (arith, total-more (edge_size a.t.now) l.j),
      omega arith,
      edge-run a.t.now a.tokens.now a.out.now a.start l.j l.invariant.0 l.invariant.2 (w.ensures.1 a.tokens.now refl),
    )

pub returns : goal.returns
returns c = let s = read-spans c.args.t.now c.requires.0 in
    let l = c.loop-j in
    let e : l.j ≡ edges c.args.t.now = omega arith in
    rw (← e) l.invariant.2

pub loop-j-init : goal.loop-j-init
unfolding total
loop-j-init c = search rules
