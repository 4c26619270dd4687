-- `spend_stocks`: one node after the other. Assumes nothing.
use Prim.Native.Nat.{◌<◌}
use mathlib.Core.Path.{◌≡◌}
use native.Mathlib.Omega.{arith}
use lib.ListN.{length}
use Rattle.words.specs.Marks.{is_marked}
use Rattle.words.proofs.Marks.{mark_test}
use Rattle.step_spend.specs.Spending.{loses}
use Rattle.step_spend.proofs.SpentHeld.{oldest-none, oldest-next, oldest-marked}
use Rattle.step_spend.proofs.spend_stocks.Goals as goal

pub loop-i-init : goal.loop-i-init
loop-i-init c = let a = c.args in (oldest-none (is_marked c.losing_nodes-losing.result) a.from.now a.kept.now)

pub loop-i-preserved : goal.loop-i-preserved
loop-i-preserved c =
    let in_from : c.loop-i.i < length c.loop-i.from =
    omega (arith, c.loop-i.invariant.froms.long, c.requires.2, c.loop-i-test.true) in
    let in_kept : c.loop-i.i < length c.loop-i.kept =
    omega (arith, c.loop-i.invariant.kepts.long, c.requires.3, c.loop-i-test.true) in (
    oldest-next c.loop-i.invariant in_from in_kept c.from_left.result c.kept_left.result c.from_left.ensures
    c.kept_left.ensures
    )

pub returns : goal.returns
returns c = let z = c.requires.0 in
    let e : c.loop-i.i ≡ c.args.table.nodes = omega arith in
    let gone = rw e at c.loop-i.invariant in
    λ p k. oldest-marked gone (loses p c.args.t.now) (λ i l. mark_test (c.losing_nodes-losing.ensures p k) i (omega (arith, z.few-nodes)))
