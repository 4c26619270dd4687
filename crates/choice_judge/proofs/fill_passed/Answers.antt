-- `fill_passed`: one row after the other. The invariant: the words say what the rows passed were made from. Assumes nothing.
use mathlib.Core.Path.{◌≡◌}
use native.Mathlib.Omega.{arith}
use Rattle.choice_judge.proofs.Parted.{passed_none, passed-more}
use Rattle.choice_judge.proofs.fill_passed.Goals as goal

pub loop-y-init : goal.loop-y-init
loop-y-init c = let a = c.args in λ z. passed_none a.node.now a.parents.now a.w a.passed.now z

pub loop-y-preserved : goal.loop-y-preserved
loop-y-preserved c = let a = c.args in
    let l = c.loop-y in
    λ z. rw c.add_offers.ensures (passed-more a.node.now a.parents.now a.w l.passed l.y _ _ c.wide.ensures.0 c.made_from.ensures (l.invariant z))

pub returns : goal.returns
returns c = let l = c.loop-y in
    let q : l.y ≡ c.args.rows = omega arith in
    λ z. rw q at (l.invariant z)
