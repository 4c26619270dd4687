-- `mark_pins`: one node after the other. The invariant: the marks are those that stood there and those of the nodes passed. Assumes nothing.
use mathlib.Core.Path.{◌≡◌}
use native.Mathlib.Omega.{arith}
use Rattle.paper.specs.Table.{nodes, owner as ownerOf}
use Rattle.words.specs.Marks.{is_marked}
use Rattle.words.proofs.Marks.{pass_none, pass_more}
use Rattle.choice_agree.specs.Agreeing.{pin_wrong}
use Rattle.choice_agree.proofs.mark_pins.Goals as goal

pub loop-p-init : goal.loop-p-init
loop-p-init c = let a = c.args in
    (λ q h. pass_none q (pin_wrong a.t.now (is_marked a.starting.now) a.c a.by_target.now) (ownerOf a.t.now) h)

pub loop-p-preserved : goal.loop-p-preserved
loop-p-preserved c = let a = c.args in
    let l = c.loop-p in
    (λ q h. pass_more q (pin_wrong a.t.now (is_marked a.starting.now) a.c a.by_target.now) (ownerOf a.t.now) _ l.p (omega (arith, l.auto.unfit)) c.mark.ensures c.pin_wrong.ensures c.owner.ensures.0 (l.invariant q h))

pub returns : goal.returns
returns c = let l = c.loop-p in
    let e : l.p ≡ nodes c.args.t.now = omega (arith, c.requires.0.nodes-read) in
    λ q h. rw e at (l.invariant q h)
