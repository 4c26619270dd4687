-- `is_first`, by its tests. Assumes nothing.
use mathlib.Core.Path.{refl, sym, ◌∙◌}
use mathlib.Core.Bool.{false}
use native.Mathlib.Omega.{arith}
use Rattle.paper.proofs.Bools.{never}
use Rattle.pick_search.proofs.is_first.Goals as goal

pub returns-then-b-p : goal.returns-then-b-p
returns-then-b-p c = λ e. never false e refl

pub returns-then-end_of-b : goal.returns-then-end_of-b
returns-then-end_of-b c = λ e. never false e refl

pub returns : goal.returns
returns c = λ e. (omega (arith, c.end_of.ensures, c.if-end_of-b.false), omega (arith, c.if-b-p.false), sym c.passes.ensures ∙ e)
