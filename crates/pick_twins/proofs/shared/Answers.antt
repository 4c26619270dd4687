-- `shared`: nothing is left of end k's rivals without those of end j. Assumes nothing.
use native.Mathlib.Omega.{arith}
use Rattle.pick_twins.proofs.Telling.{shares}
use Rattle.pick_twins.proofs.shared.Goals as goal

pub returns : goal.returns
returns c = let w = c.without in
    let e = c.end_of-end in
    let a = c.args in
    shares a.net.now a.k a.j e.result w.result (omega (arith, c.if-j-ge-ENDS.false)) e.ensures w.ensures (omega (arith, c.if-without-ne0.false))
