-- `size` adds up what the ends take. Assumes nothing.
use mathlib.Core.Path.{◌≡◌}
use native.Mathlib.Omega.{arith}
use Rattle.wire.specs.Totals.{total}
use Rattle.wire.proofs.Runs.{total-more}
use Rattle.sheet_write.specs.Listing.{end_takes, sheet_takes}
use Rattle.sheet_write.proofs.size.Goals as goal

pub loop-k-init : goal.loop-k-init
unfolding total
loop-k-init c = (omega arith, omega arith)

pub loop-k-preserved : goal.loop-k-preserved
loop-k-preserved c = let a = c.args in
    (omega (arith, total-more (end_takes a.rows.now a.ends.now a.order.now a.lens.now) c.loop-k.k), omega arith)

pub returns : goal.returns
unfolding sheet_takes
returns c = let l = c.loop-k in
    let e : l.k ≡ c.args.n = omega arith in
    (rw (← e) l.invariant.0, omega arith, omega (arith, c.requires.few))
