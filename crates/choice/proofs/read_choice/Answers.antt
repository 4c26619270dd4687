-- `read_choice`: number by number, each higher than the one before. Assumes nothing.
use Prim.Native.Nat.{◌≤◌, ◌<◌}
use mathlib.Core.Path.{◌≡◌}
use native.Mathlib.Omega.{arith}
use Rattle.paper.specs.Lists.{at}
use Rattle.choice.proofs.Laws.{reading_none, reading_next, reading_low, reading_high, read-refused, read-good}
use Rattle.choice.proofs.read_choice.Goals as goal

pub loop-k-init : goal.loop-k-init
loop-k-init c = reading_none c.args.ks.now c.args.n

pub returns-then-k-low : goal.returns-then-k-low
returns-then-k-low c =
    let h : at c.args.ks.now c.loop-k.k-index < c.loop-k.low = omega arith in
    read-refused c.args.ks.now c.args.n (reading_low c.loop-k.invariant c.loop-k-test.true h)

pub returns-then-n-k : goal.returns-then-n-k
returns-then-n-k c =
    let h : c.args.n ≤ at c.args.ks.now c.loop-k.k-index = omega arith in
    read-refused c.args.ks.now c.args.n (reading_high c.loop-k.invariant c.loop-k-test.true h)

pub loop-k-preserved : goal.loop-k-preserved
loop-k-preserved c = let s = c.loop-k in
    let e : c.wide-k.result ≡ at c.args.ks.now s.k-index = c.wide-k.ensures.0 in
    rw (c.end_of-c.ensures, e) (reading_next s.invariant c.loop-k-test.true (omega arith) (omega arith))

pub returns : goal.returns
returns c = read-good c.loop-k.invariant c.loop-k-test.false
