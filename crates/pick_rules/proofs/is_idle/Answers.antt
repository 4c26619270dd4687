-- `pick_rules::is_idle` meets its contract: what it says binds nothing is obeyed by every set. Assumes nothing.
use mathlib.Core.Path.{refl}
use native.Mathlib.Omega.{arith}
use borrow.Author.Tests.{eqb-true}
use Rattle.paper.proofs.Bools.{never}
use Rattle.pick_rules.proofs.Rows.{idle_unmet, idle_free, idle_inside}
use Rattle.pick_rules.proofs.is_idle.Goals as goal

pub returns-then-when-eq0 : goal.returns-then-when-eq0
returns-then-when-eq0 c = λ e m x l. let a = c.args in idle_unmet m a.when a.only a.lo a.hi x c.if-when-eq0.true

pub returns-then-hi-lt-ALL : goal.returns-then-hi-lt-ALL
returns-then-hi-lt-ALL c = λ e. never _ e refl

pub returns-then-lo-eq0 : goal.returns-then-lo-eq0
returns-then-lo-eq0 c = λ e m x l. let a = c.args in idle_free m a.when a.only a.lo a.hi x l (omega arith) c.if-lo-eq0.true

pub returns-then-lo-gt1 : goal.returns-then-lo-gt1
returns-then-lo-gt1 c = λ e. never _ e refl

pub returns : goal.returns
returns c = λ e m x l. let a = c.args in idle_inside m a.when a.only a.lo a.hi x l (omega arith) (omega arith) (eqb-true _ _ e)
