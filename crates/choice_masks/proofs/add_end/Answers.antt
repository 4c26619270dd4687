-- `add_end`: past the last word there is none to put the end in. Assumes nothing.
use mathlib.Core.Path.{sym, ap}
use Prim.Native.Nat.{ℕ}
use lib.Bits.{bit_or}
use lib.ListN.{set}
use lib.Seq.{set_out}
use Rattle.paper.specs.Lists.{at}
use Rattle.choice_masks.proofs.add_end.Goals as goal

pub returns-then-masks-x : goal.returns-then-masks-x
returns-then-masks-x c = let a = c.args in sym (set_out a.masks.now a.x _ c.if-masks-x.true)

pub returns : goal.returns
returns c = let a = c.args in ap (λ (w : ℕ). set a.masks.now a.x (bit_or (at a.masks.now a.x) w)) c.end_of.ensures
