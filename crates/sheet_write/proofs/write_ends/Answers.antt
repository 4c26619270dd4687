-- `write_ends` stores the ends as one run. The invariant: those passed are stored, and the next starts where they end. Assumes nothing.
use mathlib.Core.Path.{◌∙◌}
use native.Mathlib.Omega.{arith}
use Rattle.wire.proofs.Runs.{total-more, total-room, run_more}
use Rattle.sheet_write.specs.Listing.{end_takes, end_shown, sheet_takes}
use Rattle.wire.specs.Totals.{total}
use borrow.Author.Rules.{rules}
use Rattle.sheet_write.proofs.Laws.{length-end}
use Rattle.sheet_write.proofs.write_ends.Goals as goal

pub write_end-to-requires : goal.write_end-to-requires
unfolding sheet_takes
write_end-to-requires c = let a = c.args in
    let p = c.requires in
    let room = total-room (end_takes a.rows.now a.ends.now a.order.now a.lens.now) c.loop-k.k a.n (omega arith) in
    (p.0, omega arith, omega (arith, p.1, room))

pub loop-k-preserved : goal.loop-k-preserved
loop-k-preserved c = let a = c.args in
    let takes = end_takes a.rows.now a.ends.now a.order.now a.lens.now in
    let shown = end_shown a.rows.now a.ends.now a.order.now a.lens.now a.cells.now in (
      omega (arith, total-more takes c.loop-k.k),
      c.write_end-to.ensures.1
          ∙ rw c.loop-k.invariant.1 (run_more shown takes a.out.now 4 c.loop-k.to c.loop-k.k (λ k h. length-end c.requires.0 k (omega arith)) c.loop-k.invariant.0),
    )

pub loop-k-init : goal.loop-k-init
unfolding total
loop-k-init c = search rules
