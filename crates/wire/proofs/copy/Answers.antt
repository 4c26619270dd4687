-- `copy` stores a part of one list in another. The invariant: the bytes passed are stored. Assumes nothing.
use mathlib.Core.Path.{◌≡◌}
use native.Mathlib.Omega.{arith}
use lib.ListN.{length-set}
use Rattle.wire.proofs.Runs.{copy_more}
use Rattle.wire.proofs.copy.Goals as goal

pub loop-k-preserved : goal.loop-k-preserved
loop-k-preserved c = let a = c.args in
    let l = c.loop-k in
    (simp length-set (omega arith), rw l.invariant.1 (copy_more a.out.now a.src.now a.to a.from l.k (omega arith)))

pub returns : goal.returns
returns c = let l = c.loop-k in
    let e : l.k ≡ c.args.n = omega arith in
    rw (← e) l.invariant.1
