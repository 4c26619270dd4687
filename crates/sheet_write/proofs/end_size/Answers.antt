-- `end_size` adds up what the paths take. Assumes nothing.
use Prim.Native.Nat.{◌+◌}
use mathlib.Core.Path.{◌≡◌, ap, ◌∙◌}
use native.Mathlib.Omega.{arith}
use Rattle.paper.specs.Lists.{at}
use Rattle.wire.specs.Totals.{total}
use Rattle.wire.proofs.Runs.{total-more}
use Rattle.sheet_write.specs.Listing.{many, path_takes, end_takes}
use Rattle.sheet_write.proofs.end_size.Goals as goal

pub loop-j-init : goal.loop-j-init
unfolding total
loop-j-init c = (omega arith, omega arith)

pub loop-j-preserved : goal.loop-j-preserved
loop-j-preserved c =
    let a = c.args in
    let e : c.path_size-taken.result ≡ path_takes a.order.now a.lens.now a.k c.loop-j.j = c.path_size-taken.ensures.0 ∙ ap (λ q. 1 + at a.lens.now q) c.wide-in-loop-j.ensures.0 in
    (omega (arith, total-more (path_takes a.order.now a.lens.now a.k) c.loop-j.j), omega arith)

pub returns : goal.returns
unfolding end_takes
returns c =
    let a = c.args in
    let l = c.loop-j in
    let many-are : c.paths_of-m.result ≡ many a.rows.now (at a.ends.now a.k) = c.paths_of-m.ensures.0 ∙ ap (many a.rows.now) c.wide.ensures.0 in
    let z : l.j ≡ many a.rows.now (at a.ends.now a.k) = omega (arith, many-are) in
    (rw (← z) l.invariant.0, omega (arith, c.paths_of-m.ensures.1))
