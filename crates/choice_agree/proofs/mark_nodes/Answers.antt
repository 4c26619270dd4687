-- `mark_nodes`: one node after the other. The invariant: the marks are those that stood there and those of the nodes passed. Assumes nothing.
use mathlib.Core.Path.{refl, ap}
use mathlib.Core.Bool.{Bool, ◌||◌}
use Prim.Native.Nat.{ℕ}
use native.Mathlib.Omega.{arith}
use Rattle.paper.proofs.Counts.{any-below_self}
use Rattle.words.specs.Marks.{is_marked}
use Rattle.words.proofs.Marks.{pass_none, pass_more, pass_done}
use Rattle.choice_agree.specs.Agreeing.{node_wrong}
use Rattle.choice_agree.proofs.mark_nodes.Goals as goal

pub loop-i-init : goal.loop-i-init
loop-i-init c =
    let wrong : ℕ → Bool =
    let a = c.args in node_wrong a.t.now (is_marked a.starting.now) a.c a.by_target.now a.kept a.kept in
    λ p h. pass_none p wrong (λ x. x) h

pub loop-i-preserved : goal.loop-i-preserved
loop-i-preserved c =
    let wrong : ℕ → Bool =
    let a = c.args in node_wrong a.t.now (is_marked a.starting.now) a.c a.by_target.now a.kept a.kept in
    let p = c.loop-i in
    λ r h. pass_more r wrong (λ x. x) _ p.i (omega (arith, p.auto.unfit)) c.mark.ensures c.node_wrong.ensures refl (p.invariant r h)

pub returns : goal.returns
returns c =
    let wrong : ℕ → Bool =
    let a = c.args in node_wrong a.t.now (is_marked a.starting.now) a.c a.by_target.now a.kept a.kept in
    let a = c.args in
    let l = c.loop-i in
    let q = wrong in
    λ p h. pass_done p q (λ x. x) l.i a.table.nodes (λ i. p i || q i) (l.invariant p h) (omega arith)
    (λ i g. ap (λ (b : Bool). p i || b) (any-below_self q a.table.nodes i g))
