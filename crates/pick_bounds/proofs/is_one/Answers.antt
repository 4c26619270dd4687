-- `is_one`: nothing, or a power of two. Assumes nothing.
use mathlib.Core.Path.{◌≡◌, ◌∙◌}
use native.Mathlib.Omega.{arith}
use borrow.Author.Tests.{eqb-true}
use Rattle.pick_bounds.proofs.Sets.{none_at_all, one-held}
use Rattle.pick_bounds.proofs.is_one.Goals as goal

pub returns-then-c-eq0 : goal.returns-then-c-eq0
returns-then-c-eq0 c = λ e. let z : c.args.c ≡ 0 = omega (arith, c.if-c-eq0.true) in none_at_all c.args.c z

pub returns : goal.returns
returns c = λ e.
    let a = c.args in
    one-held a.c c.first_of.result (eqb-true a.c c.end_of.result e ∙ c.end_of.ensures)
