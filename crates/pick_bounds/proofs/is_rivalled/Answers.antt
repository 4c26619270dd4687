-- `is_rivalled`: by its tests. Assumes nothing.
use mathlib.Core.Path.{sym, ap, ◌∙◌}
use mathlib.Core.Bool.{Bool, ◌&&◌}
use native.Mathlib.Omega.{arith}
use borrow.Author.Tests.{lt-ltb}
use Rattle.pick_bounds.specs.Net.{meets}
use Rattle.paper.specs.Lists.{at}
use Rattle.pick_bounds.proofs.is_rivalled.Goals as goal

pub returns : goal.returns
returns c = let a = c.args in c.meets.ensures ∙ sym (ap (λ (b : Bool). b && meets 32 a.c (at a.net.now a.k)) (lt-ltb a.k 20 (omega (arith, c.if-k-ge-ENDS.false))))
