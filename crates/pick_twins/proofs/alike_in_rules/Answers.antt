-- `alike_in_rules`: the invariant says that the rules before i tell none of `same` from end k. Assumes nothing.
use native.Mathlib.Omega.{arith}
use Rattle.pick_twins.proofs.alike_in_rules.Goals as goal

pub returns : goal.returns
returns c = let t = c.loop-i-test.false in
    let n = c.size-i-end.ensures in
    λ j h. let q = c.loop-i.invariant j h in (q.0, λ m l. q.1 m (omega arith))
