-- `is_full`: by a count. Assumes nothing.
use native.Mathlib.Omega.{arith}
use borrow.Author.Tests.{leb-true}
use Rattle.pick_bounds.proofs.is_full.Goals as goal

pub returns : goal.returns
returns c = λ e. let a = c.args in
    let l = leb-true a.most c.held.result e in let q = c.held.ensures in omega arith
