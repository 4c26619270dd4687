-- `mark_edges`: one edge after the other. The invariant: the marks are those that stood there and those of the edges passed. Assumes nothing.
use mathlib.Core.Path.{◌≡◌}
use native.Mathlib.Omega.{arith}
use Rattle.paper.specs.Table.{edges, target as target_of}
use Rattle.words.specs.Marks.{is_marked}
use Rattle.words.proofs.Marks.{pass_none, pass_more}
use Rattle.choice_agree.specs.Agreeing.{edge_wrong}
use Rattle.choice_agree.proofs.mark_edges.Goals as goal

pub loop-e-init : goal.loop-e-init
loop-e-init c = let a = c.args in
    (λ p h. pass_none p (edge_wrong a.t.now (is_marked a.starting.now) a.c a.by_edge.now) (target_of a.t.now) h)

pub loop-e-preserved : goal.loop-e-preserved
loop-e-preserved c = let a = c.args in
    let l = c.loop-e in
    (λ p h. pass_more p (edge_wrong a.t.now (is_marked a.starting.now) a.c a.by_edge.now) (target_of a.t.now) _ l.e (omega (arith, l.auto.unfit)) c.mark.ensures c.edge_wrong.ensures c.target.ensures.0 (l.invariant p h))

pub returns : goal.returns
returns c = let l = c.loop-e in
    let q : l.e ≡ edges c.args.t.now = omega (arith, c.requires.0.edges-read) in
    λ p h. rw q at (l.invariant p h)
