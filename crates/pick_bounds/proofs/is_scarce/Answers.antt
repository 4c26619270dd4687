-- `is_scarce`: one that may be had, or a count. Assumes nothing.
use native.Mathlib.Omega.{arith}
use borrow.Author.Tests.{leb-true}
use Rattle.pick_bounds.proofs.Sets.{held_itself}
use Rattle.pick_bounds.proofs.is_scarce.Goals as goal

pub returns-then-least-eq1 : goal.returns-then-least-eq1
returns-then-least-eq1 c = λ e. let a = c.args in
    let z = c.if-least-eq1.true in
    omega (arith, held_itself a.b.may a.ends, c.is_one.ensures e)

pub returns : goal.returns
returns c = λ e. let a = c.args in
    let l = leb-true c.held.result a.least e in let q = c.held.ensures in omega arith
