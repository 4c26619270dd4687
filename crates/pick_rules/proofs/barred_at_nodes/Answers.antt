-- `pick_rules::barred_at_nodes` meets its contract: the word has what is barred at the nodes below i. Assumes nothing.
use mathlib.Core.Path.{◌≡◌, refl}
use native.Mathlib.Omega.{arith}
use Rattle.pick_rules.specs.Rules.{node_bar}
use Rattle.pick_rules.proofs.Masks.{bars_none, bars_more, bars_all}
use Rattle.pick_rules.proofs.barred_at_nodes.Goals as goal

pub loop-i-init : goal.loop-i-init
loop-i-init c = λ byEdge edge target home stock n m. bars_none n (λ x. refl)

pub barred_at_node-w-requires : goal.barred_at_node-w-requires
barred_at_node-w-requires c = let p = c.requires in (p.0, c.loop-i-test.true, p.1, p.2, p.3)

pub loop-i-preserved : goal.loop-i-preserved
loop-i-preserved c =
    let l = c.loop-i in
    let a = c.args in
    λ byEdge edge target home stock n m. bars_more (node_bar a.t.now target home a.runs.now stock n) l.i (l.invariant byEdge edge target home stock n m) (c.barred_at_node-w.ensures byEdge edge target home stock n m)

pub returns : goal.returns
returns c = λ byEdge edge target home stock n m.
    let l = c.loop-i in
    let a = c.args in
    bars_all (node_bar a.t.now target home a.runs.now stock n) (let e : l.i ≡ a.table.nodes = omega arith in e) (l.invariant byEdge edge target home stock n m)
