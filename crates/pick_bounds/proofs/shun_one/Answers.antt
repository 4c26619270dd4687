-- `shun_one`: no set that passes has a rival of an end that it has. Assumes nothing.
use mathlib.Core.Path.{sym, ◌∙◌}
use native.Mathlib.Omega.{arith}
use Rattle.pick_bounds.proofs.Pruning.{shuns}
use Rattle.pick_bounds.proofs.shun_one.Goals as goal

pub returns : goal.returns
returns c = λ want. let a = c.args in
    shuns a.net.now want a.b a.k c.end_of.result (omega (arith, c.if-k-ge-ENDS.false)) c.end_of.ensures (sym c.meets.ensures ∙ c.if-not-meets.false) c.strike.result c.strike.ensures
