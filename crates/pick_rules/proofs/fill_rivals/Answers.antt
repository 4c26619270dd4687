-- `pick_rules::fill_rivals` meets its contract: the cells below k are filled. Assumes nothing.
use native.Mathlib.Omega.{arith}
use Rattle.pick_rules.proofs.Kept.{filled_none, filled_more, filled_all}
use Rattle.pick_rules.proofs.fill_rivals.Goals as goal

pub loop-k-init : goal.loop-k-init
loop-k-init c = let a = c.args in filled_none a.foes.now a.makers.now a.n a.net.now

pub rivals-requires : goal.rivals-requires
rivals-requires c = let p = c.requires in (p.1, p.2, omega (arith, c.loop-k-test.true), p.3)

pub bounds-net-k : goal.bounds-net-k
bounds-net-k c = let p = c.requires in omega (arith, c.loop-k.auto.net, p.0, p.3)

pub loop-k-preserved : goal.loop-k-preserved
loop-k-preserved c =
    let l = c.loop-k in
    let a = c.args in
    let p = c.requires in
    filled_more a.foes.now a.makers.now a.n l.net l.k _ (omega (arith, l.auto.net, p.0, p.3)) c.loop-k-test.true c.rivals.ensures l.invariant

pub returns : goal.returns
returns c =
    let a = c.args in
    filled_all a.foes.now a.makers.now a.n _ c.loop-k.k (omega arith) c.requires.3 c.loop-k.invariant
