-- `clear_nodes`: one node after the other; of an outgoing parameter the number of values is left as it is. Assumes nothing.
use Prim.Native.Nat.{◌<◌}
use mathlib.Core.Path.{◌≡◌}
use native.Mathlib.Omega.{arith}
use lib.ListN.{length}
use Rattle.step_close.proofs.Clearing.{emptied_none, emptied_more, emptied_left}
use Rattle.step_close.proofs.clear_nodes.Goals as goal
use Rattle.step_close.proofs.clear_nodes.Goals.{then-kind-ne-OUTGOING, else-kind-ne-OUTGOING}

pub loop-i-init : goal.loop-i-init
loop-i-init c = let a = c.args in (emptied_none a.t.now a.kept.now a.more.now a.runs.now)

pub loop-i-preserved : goal.loop-i-preserved
loop-i-preserved c =
    let in_kept : c.loop-i.i < length c.loop-i.kept =
    omega (arith, c.loop-i.invariant.kepts.long, c.requires.1, c.loop-i-test.true) in
    let in_more : c.loop-i.i < length c.loop-i.more =
    omega (arith, c.loop-i.invariant.mores.long, c.requires.2, c.loop-i-test.true) in
    let in_runs : c.loop-i.i < length c.loop-i.runs =
    omega (arith, c.loop-i.invariant.still.long, c.requires.3, c.loop-i-test.true) in
    let g = c.loop-i.invariant in
    let k = c.kind.ensures.0 in (
    elim c.if-kind-ne-OUTGOING.branch [
      | then-kind-ne-OUTGOING w ↦ rw (w.kept-is, w.more-is) (emptied_more g (in_runs) k w.if-kind-ne-OUTGOING.true (in_kept) (in_more))
      | else-kind-ne-OUTGOING w ↦ rw (w.kept-is, w.more-is) (emptied_left g (in_runs) k w.if-kind-ne-OUTGOING.false)
    ]
    )

pub returns : goal.returns
returns c = let e : c.loop-i.i ≡ c.args.table.nodes = omega arith in rw (← e) c.loop-i.invariant
