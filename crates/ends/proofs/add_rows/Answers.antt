-- `ends::add_rows` meets its contract: the loop has put the rows from a to i, each with the key. Assumes nothing.
use mathlib.Core.Path.{◌≡◌, subst}
use Prim.Native.Nat.{◌-◌}
use native.Mathlib.Omega.{arith}
use Rattle.ends.specs.Slots.{Added}
use Rattle.ends.proofs.Found.{added_none, added_more}
use Rattle.ends.proofs.add_rows.Goals as goal

pub loop-i-init : goal.loop-i-init
loop-i-init c = let x = c.args in added_none x.found.now x.keys.now x.n x.a x.key

pub loop-i-preserved : goal.loop-i-preserved
loop-i-preserved c =
    let l = c.loop-i in
    let x = c.args in
    added_more x.found.now l.found x.keys.now l.keys x.n x.a l.i x.key (omega arith) (omega (arith, l.auto.found)) (omega (arith, l.auto.keys)) l.invariant

pub returns : goal.returns
returns c =
    let l = c.loop-i in
    let x = c.args in
    let e : l.i ≡ x.b = omega arith in
    subst (λ z. Added x.found.now l.found x.keys.now l.keys x.n x.a (z - x.a) x.key) e l.invariant
