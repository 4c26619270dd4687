-- `runs_then`: an action that is marked runs. Assumes nothing.
use mathlib.Core.Path.{sym}
use borrow.Author.Tests.{eq-eqb, ne_eqb}
use Rattle.step_gain.proofs.runs_then.Goals as goal

pub returns-then-k-ne-ACTION : goal.returns-then-k-ne-ACTION
returns-then-k-ne-ACTION c = sym (rw (ne_eqb c.args.k 2 c.if-k-ne-ACTION.true))

pub returns-then-touched-eq0 : goal.returns-then-touched-eq0
returns-then-touched-eq0 c = let a = c.args in sym (rw (eq-eqb a.k 2 c.if-k-ne-ACTION.false, eq-eqb a.touched 0 c.if-touched-eq0.true))

pub returns : goal.returns
returns c = let a = c.args in sym (rw (eq-eqb a.k 2 c.if-k-ne-ACTION.false, ne_eqb a.touched 0 c.if-touched-eq0.false))
