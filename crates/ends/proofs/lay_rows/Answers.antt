-- `ends::lay_rows` meets its contract: the loop has laid the rows of the ends below k. Assumes nothing.
use mathlib.Core.Path.{ap}
use native.Mathlib.Omega.{arith}
use Rattle.paper.specs.Lists.{at}
use Rattle.offers.proofs.Cells.{filled}
use Rattle.ends.proofs.lay_rows.Goals as goal

pub loop-k-init : goal.loop-k-init
loop-k-init c = λ j l. absurd (omega arith)

pub bounds-found-wide : goal.bounds-found-wide
bounds-found-wide c =
    omega (arith, c.wide.ensures.0, c.requires.1 c.loop-k.k (omega arith))

pub loop-k-preserved : goal.loop-k-preserved
loop-k-preserved c =
    let a = c.args in
    let row = ap (at a.found.now) c.wide.ensures.0 in
    filled (λ j. at a.found.now (at a.slots.now j)) c.loop-k.ends c.loop-k.k _ (omega (arith, c.loop-k.auto.ends)) row c.loop-k.invariant

pub returns : goal.returns
returns c = λ j l. c.loop-k.invariant j (omega arith)
