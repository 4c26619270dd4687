-- `idle` empties the action's input pins, one after the other. Assumes nothing.
use mathlib.Core.Path.{◌≡◌}
use native.Mathlib.Omega.{arith}
use Rattle.paper.specs.Table.{nodes}
use Rattle.marking_held.proofs.HeldLaws.{idle_held}
use Rattle.marking_held.proofs.idle.Goals as goal

pub returns : goal.returns
returns c = let s = c.loop-i in
    let a = c.args in
    let e : s.i ≡ nodes a.t.now = omega (arith, c.requires.0.nodes-read) in
    idle_held a.t.now a.a a.kept.now s.kept (omega arith) (rw e at s.invariant)
