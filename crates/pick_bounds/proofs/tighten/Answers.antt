-- `tighten`: the invariant says that what is wanted and the rules before i kept every set that passes. Assumes nothing.
use native.Mathlib.Omega.{arith}
use Rattle.pick_bounds.specs.Bounds.{good}
use Rattle.pick_bounds.proofs.Pruning.{keeps_then, keeps_rule, keeps_wanted}
use Rattle.pick_bounds.proofs.tighten.Goals as goal

pub returns-then-is_dead : goal.returns-then-is_dead
returns-then-is_dead c = let a = c.args in
    let b = c.ask.result in
    let d = c.spread-low.result in
    let g = good a.net.now a.want in
    keeps_then g a.b b _ (keeps_wanted a.net.now a.want a.b b c.ask.ensures) (keeps_then g b d _ (c.spread-low.ensures a.want) c.loop-i.invariant)

pub loop-i-preserved : goal.loop-i-preserved
loop-i-preserved c = let a = c.args in
    let l = c.loop-i in
    let g = good a.net.now a.want in
    let t = c.loop-i-test.true in
    keeps_then g c.spread-low.result l.low c.spread-low-in-loop-i.result l.invariant
    (keeps_then g l.low c.draw.result c.spread-low-in-loop-i.result
    (keeps_rule a.net.now a.want l.low l.i (omega (arith, c.size-i-end.ensures)) c.rule_at.result c.rule_at.ensures c.draw.result c.draw.ensures)
    (c.spread-low-in-loop-i.ensures a.want))

pub returns : goal.returns
returns c = let a = c.args in
    let b = c.ask.result in
    let d = c.spread-low.result in
    let g = good a.net.now a.want in
    keeps_then g a.b b _ (keeps_wanted a.net.now a.want a.b b c.ask.ensures) (keeps_then g b d _ (c.spread-low.ensures a.want) c.loop-i.invariant)
