-- `fill_masks`: one end after the other. The invariant: the words mark the ends below k. Assumes nothing.
use mathlib.Core.Path.{refl}
use native.Mathlib.Omega.{arith}
use borrow.Author.Rules.{rules}
use Rattle.choice_masks.proofs.Masking.{masked_none, masked_more, masked_all}
use Rattle.choice_masks.proofs.fill_masks.Goals as goal

pub loop-k-init : goal.loop-k-init
loop-k-init c = let a = c.args in masked_none a.column.now a.masks.now c.requires.0

pub loop-k-preserved : goal.loop-k-preserved
loop-k-preserved c =
    let l = c.loop-k in
    let h = masked_more c.args.column.now l.masks l.k c.wide.result c.wide.ensures.0 l.invariant in
    rw c.add_end.ensures h

pub returns : goal.returns
returns c = masked_all (omega arith) c.loop-k.invariant
