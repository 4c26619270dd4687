-- `leave_own`: the entries below k were gone through, the others stand as they were. Assumes nothing.
use native.Mathlib.Omega.{arith}
use Rattle.why.proofs.Own.{so_far_none, so_far_more, so_far_all}
use Rattle.why.proofs.leave_own.Goals as goal

pub loop-k-init : goal.loop-k-init
loop-k-init c = let a = c.args in so_far_none a.column.now a.home.now a.own

pub loop-k-preserved : goal.loop-k-preserved
loop-k-preserved c =
    let l = c.loop-k in
    let a = c.args in
    let p = c.requires in
    so_far_more a.column.now a.home.now a.own l.column l.k _ l.invariant (omega (arith, l.auto.column, p.0, c.loop-k-test.true)) c.own_entry.ensures

pub returns : goal.returns
returns c = so_far_all c.args.n (omega (arith, c.loop-k-test.false)) c.loop-k.invariant
