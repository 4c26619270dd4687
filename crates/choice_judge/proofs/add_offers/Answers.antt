-- `add_offers`: past the last word there is none to put them in. Assumes nothing.
use mathlib.Core.Path.{sym}
use lib.Seq.{set_out}
use Rattle.choice_judge.proofs.add_offers.Goals as goal

pub returns-then-passed-i : goal.returns-then-passed-i
returns-then-passed-i c = let a = c.args in sym (set_out a.passed.now a.i _ c.if-passed-i.true)
