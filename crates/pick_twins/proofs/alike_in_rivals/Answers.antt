-- `alike_in_rivals`: the invariant says that the rivals of the ends before i tell none of `same` from end k. Assumes nothing.
use native.Mathlib.Omega.{arith}
use Rattle.pick_twins.proofs.alike_in_rivals.Goals as goal

pub returns : goal.returns
returns c = let t = c.loop-i-test.false in
    λ j h. let q = c.loop-i.invariant j h in (q.0, λ m l. q.1 m (omega arith))
