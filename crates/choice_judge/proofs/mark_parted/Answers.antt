-- `mark_parted`: one row after the other. The invariant: the marks are those that stood there and those of the rows passed. Assumes nothing.
use mathlib.Core.Bool.{false}
use native.Mathlib.Omega.{arith}
use Rattle.paper.specs.Lists.{at}
use Rattle.words.proofs.Marks.{pass_more, pass_done}
use Rattle.choice_judge.specs.Judging.{parted_at, left_out}
use Rattle.choice_judge.proofs.Parted.{parted-marked}
use Rattle.choice_judge.proofs.mark_parted.Goals as goal

pub loop-z-init : goal.loop-z-init
loop-z-init c = λ q b. record { tell = λ a l. b a }

pub loop-z-preserved : goal.loop-z-preserved
loop-z-preserved c = let a = c.args in
    let l = c.loop-z in
    λ q b. pass_more (λ a. false) (left_out a.node.now a.parents.now a.rows a.w a.t.now) (at a.node.now) _ l.z (omega (arith, l.auto.parted)) c.mark.ensures (c.is_left_out.ensures a.rows q) c.wide.ensures.0 (l.invariant q b)

pub returns : goal.returns
returns c = let a = c.args in
    let l = c.loop-z in
    λ q b. pass_done (λ a. false) (left_out a.node.now a.parents.now a.rows a.w a.t.now) (at a.node.now) l.z a.rows (parted_at a.node.now a.parents.now a.rows a.w a.t.now) (l.invariant q b) (omega arith)
    (λ i g. parted-marked a.node.now a.parents.now a.rows a.w a.t.now i (omega (arith, c.requires.0.nodes-read)))
