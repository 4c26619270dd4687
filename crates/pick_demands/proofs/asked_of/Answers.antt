-- `asked_of`: the invariant says that what is summed is asked for, and of these ends. Assumes nothing.
use Prim.Native.Nat.{◌-◌}
use native.Mathlib.Omega.{arith}
use Rattle.pick_demands.proofs.asked_of.Goals as goal

pub loop-i-preserved : goal.loop-i-preserved
loop-i-preserved c = let l = c.loop-i in
    let t = c.loop-i-test.true in
    (λ p b f. c.plus-all.ensures.0 p b (l.invariant.0 p b f) (c.share.ensures.0 p b (f (l.i - 1) _ (omega arith))), c.plus-all.ensures.1 c.args.of l.invariant.1 c.share.ensures.1)
