-- `huddle`: the invariant says that the ends so far are a group; the ends in common become fewer. Assumes nothing.
use native.Mathlib.Omega.{arith}
use Rattle.pick_bounds.specs.Bounds.{good}
use Rattle.pick_demands.proofs.Crowding.{huddled_none, shuns_net}
use Rattle.pick_demands.proofs.huddle.Goals as goal

pub loop-h-init : goal.loop-h-init
loop-h-init c = let a = c.args in
    λ want. huddled_none (good a.net.now want) a.ends

pub returns-then-k-ge-ENDS : goal.returns-then-k-ge-ENDS
returns-then-k-ge-ENDS c = λ want. (c.loop-h.invariant want).lone

pub loop-h-smaller : goal.loop-h-smaller
loop-h-smaller c = c.admit-h.ensures.1 c.first_of-k.ensures.1

pub loop-h-preserved : goal.loop-h-preserved
loop-h-preserved c = let net = c.args.net.now in
    let l = c.if-k-ge-ENDS.false in
    λ want. c.admit-h.ensures.0 (good net want) (shuns_net net want c.first_of-k.result (omega arith)) (c.loop-h.invariant want)

pub returns : goal.returns
returns c = λ want. (c.loop-h.invariant want).lone
