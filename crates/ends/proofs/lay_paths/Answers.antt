-- `ends::lay_paths` meets its contract: the loop has laid the blocks below x. Assumes nothing.
use mathlib.Core.Path.{ap}
use Prim.Native.Nat.{◌+◌, ◌/◌, ◌%◌}
use native.Mathlib.Omega.{arith}
use Rattle.paper.specs.Limits.{limits}
use Rattle.paper.specs.Lists.{at}
use Rattle.offers.proofs.Cells.{filled}
use Rattle.ends_paths.specs.Blocks.{first_block}
use Rattle.ends.specs.Slots.{laid_from}
use Rattle.ends.proofs.lay_paths.Goals as goal

pub loop-x-init : goal.loop-x-init
loop-x-init c = λ j l. absurd (omega arith)

pub bounds-sorted-wide : goal.bounds-sorted-wide
bounds-sorted-wide c =
    let x = c.loop-x.x in
    omega (arith, c.wide.ensures.0, c.requires.1 (x / limits.most_paths) (omega arith))

pub loop-x-preserved : goal.loop-x-preserved
loop-x-preserved c =
    let l = c.loop-x in
    let a = c.args in
    let new = ap (λ z. at a.sorted.now (first_block z + l.x % limits.most_paths)) c.wide.ensures.0 in
    filled (λ j. at a.sorted.now (laid_from a.slots.now j)) l.order l.x _ (omega (arith, l.auto.order)) new l.invariant

pub returns : goal.returns
returns c = λ j l. c.loop-x.invariant j (omega arith)
