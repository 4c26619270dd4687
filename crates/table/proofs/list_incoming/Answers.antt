-- `table::list_incoming` meets its contract: the loop has listed the edges from j on. Assumes nothing.
use mathlib.Core.Path.{◌≡◌, sym, ◌∙◌, subst}
use Prim.Native.Nat.{◌+◌, ◌-◌, ◌<◌}
use native.Mathlib.Omega.{arith}
use lib.ListN.{length-set}
use Rattle.paper.specs.Table.{nodes, edges, target}
use Rattle.table.proofs.Incoming.{Begun, begun_more, begun_all, incoming-listed}
use Rattle.table.proofs.list_incoming.Goals as goal

pub loop-j-preserved : goal.loop-j-preserved
loop-j-preserved c =
    let l = c.loop-j in
    let a = c.args in
    let p = c.requires in
    let j = l.j - 1 in
    let i = c.target-i.result in
    let at = c.target-i.ensures.0 in
    let lt : j < edges a.t.now = omega (arith, l.invariant.0.0, c.loop-j-test.true) in
    let node = p.targets j lt in
    let e : l.j ≡ j + 1 = omega (arith, c.loop-j-test.true) in (
      (omega (arith, lt), (length-set l.first i j ∙ l.invariant.0.1.0, length-set l.next j _ ∙ l.invariant.0.1.1)),
      begun_more (target a.t.now) (edges a.t.now) (nodes a.t.now) l.first l.next j i (sym at) lt p.spans.few-edges
          (omega (arith, lt, p.spans.few-edges, p.nexts-blank.room, l.invariant.0.1.1))
          (omega (arith, at, node, p.spans.few-nodes, p.firsts-blank.room, l.invariant.0.1.0))
          (subst (λ z. Begun (target a.t.now) (edges a.t.now) (nodes a.t.now) l.first l.next z) e l.invariant.1) (omega (arith, at, node)),
    )

pub returns : goal.returns
returns c =
    let l = c.loop-j in
    incoming-listed (begun_all l.j (omega (arith, c.loop-j-test.false)) l.invariant.1)
