-- `forces`: a demand has too few ends elsewhere. Assumes nothing.
use mathlib.Core.Path.{sym, ◌∙◌}
use native.Mathlib.Omega.{arith}
use borrow.Author.Tests.{not-true, leb-false}
use Rattle.pick_demands.proofs.Demands.{forced}
use Rattle.pick_demands.proofs.forces.Goals as goal

pub returns : goal.returns
returns c = let a = c.args in
    let h = c.has_least.ensures in
    λ e. let few = sym h ∙ not-true _ e in
    forced a.d.ends a.d.least a.when c.without-rest.result c.without-rest.ensures (omega (arith, leb-false))
