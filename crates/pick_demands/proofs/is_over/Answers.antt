-- `is_over`: what is taken, or what is taken and asked for, is more than may be had. Assumes nothing.
use mathlib.Core.Path.{refl}
use mathlib.Core.Bool.{false}
use native.Mathlib.Omega.{arith}
use borrow.Author.Tests.{ltb-true, leb-true}
use Rattle.paper.proofs.Bools.{never}
use Rattle.pick_demands.proofs.Demands.{over-taken, over_asked}
use Rattle.pick_demands.proofs.is_over.Goals as goal

pub returns-then-may-most : goal.returns-then-may-most
returns-then-may-most c = λ e. never false e refl

pub returns-then-most-must : goal.returns-then-most-must
returns-then-most-must c = let a = c.args in
    let must = c.held-must.ensures in
    let t = c.if-most-must.true in
    λ e p f g. over-taken p a.b a.ends a.most g (omega arith)

pub returns : goal.returns
returns c = let a = c.args in
    let must = c.held-must in
    let rest = c.without in
    let asked = c.asked_of-asked in
    λ e p f g.
    let m = must.ensures in
    let t = c.if-most-must.false in
    over_asked p a.b a.ends a.most rest.result asked.result.ends asked.result.least rest.ensures asked.ensures.1 (asked.ensures.0 p a.b f) g (omega (arith, ltb-true, leb-true))
