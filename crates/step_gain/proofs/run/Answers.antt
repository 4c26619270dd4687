-- `run`: one node after the other. Assumes nothing.
use Prim.Native.Nat.{ℕ, ◌<◌}
use mathlib.Core.Path.{◌≡◌, ap, ◌∙◌}
use mathlib.Core.Bool.{◌&&◌, cond}
use native.Mathlib.Omega.{arith}
use lib.ListN.{length}
use Rattle.paper.specs.Lists.{at}
use Rattle.paper.specs.Table.{kind as kind_of, is_action}
use Rattle.words.specs.Marks.{is_marked}
use Rattle.marking_held.proofs.Fillings.{filled_none, filled_set}
use Rattle.step_gain.proofs.Touching.{started_marked}
use Rattle.step_gain.proofs.run.Goals as goal

pub loop-i-init : goal.loop-i-init
loop-i-init c = let a = c.args in
    (filled_none (λ i. cond (is_action (kind_of a.t.now i) && is_marked c.touched_nodes-touched.result i) 1 (at a.runs.now i)) a.runs.now)

pub loop-i-preserved : goal.loop-i-preserved
loop-i-preserved c =
    let inside : c.loop-i.i < length c.loop-i.runs =
    omega (arith, c.loop-i.invariant.long, c.requires.2, c.loop-i-test.true) in
    let t = c.args.t.now in
    let s = c.loop-i in
    let k : c.kind.result ≡ kind_of t s.i = c.kind.ensures.0 in
    let e = c.runs_then.ensures
    ∙ ap (λ (x : ℕ). cond (is_action x && is_marked c.touched_nodes-touched.result s.i) 1 (at s.runs s.i)) k
    ∙ ap (cond (is_action (kind_of t s.i) && is_marked c.touched_nodes-touched.result s.i) 1) (s.invariant.rest s.i (omega arith)) in
    (filled_set s.invariant c.runs_then.result (inside) e)

pub returns : goal.returns
returns c = let a = c.args in
    let e = a.ends in
    let q : c.loop-i.i ≡ a.table.nodes = omega arith in
    started_marked a.t.now e.target e.home e.count a.c c.touched_nodes-touched.ensures (omega (arith, c.requires.0.few-nodes))
    (rw q at c.loop-i.invariant)
