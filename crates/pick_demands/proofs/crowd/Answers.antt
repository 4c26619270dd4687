-- `crowd`: the invariant says that all but `most` of the ends of a set that passes are left. Assumes nothing.
use mathlib.Core.Path.{◌≡◌}
use native.Mathlib.Omega.{arith}
use Rattle.pick_bounds.specs.Bounds.{good}
use Rattle.pick_demands.proofs.Crowding.{most_all, most_less, most_done}
use Rattle.pick_demands.proofs.crowd.Goals as goal

pub loop-most-init : goal.loop-most-init
loop-most-init c = λ want x e. omega arith

pub returns-then-left-eq0 : goal.returns-then-left-eq0
returns-then-left-eq0 c = let a = c.args in
    let l = c.loop-most in
    let z : l.left ≡ 0 = omega arith in
    λ want. most_done (good a.net.now want) a.ends l.most (λ x e. rw z at (l.invariant want x e))

pub loop-most-preserved : goal.loop-most-preserved
loop-most-preserved c = let a = c.args in
    let l = c.loop-most in
    λ want. most_less (good a.net.now want) a.ends l.left c.huddle.result c.without-left.result l.most (l.invariant want) (c.huddle.ensures want) c.without-left.ensures

pub returns : goal.returns
returns c = let a = c.args in
    λ want. most_all (good a.net.now want) a.ends
