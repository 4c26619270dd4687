-- `is_crowded`: more is asked for than goes together. Assumes nothing.
use mathlib.Core.Path.{refl}
use mathlib.Core.Bool.{false}
use native.Mathlib.Omega.{arith}
use borrow.Author.Tests.{ltb-true, leb-true}
use Rattle.paper.proofs.Bools.{never}
use Rattle.pick_bounds.specs.Bounds.{good}
use Rattle.pick_demands.proofs.Demands.{crowded}
use Rattle.pick_demands.proofs.is_crowded.Goals as goal

pub returns-then-all-le1 : goal.returns-then-all-le1
returns-then-all-le1 c = λ e. never false e refl

pub returns : goal.returns
returns c = let a = c.args in
    let all = c.asked_of-all in
    let most = c.crowd in
    λ e want b f. let p = good a.net.now want in crowded p b all.result.ends all.result.least most.result (all.ensures.0 p b f) (most.ensures want) (omega (arith, ltb-true, leb-true))
