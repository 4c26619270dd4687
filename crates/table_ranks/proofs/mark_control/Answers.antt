-- `mark_control` marks the control nodes. Assumes nothing.
use mathlib.Core.Path.{◌∙◌, ap, refl}
use mathlib.Core.Bool.{false}
use native.Mathlib.Omega.{arith}
use Rattle.paper.specs.Table.{nodes, kind, is_control_node}
use Rattle.paper.proofs.Counts.{any-below_self}
use Rattle.words.proofs.Marks.{pass_more, pass_done}
use Rattle.table_ranks.proofs.Chains.{marks_ranked}
use Rattle.table_ranks.proofs.mark_control.Goals as goal

pub loop-i-preserved : goal.loop-i-preserved
loop-i-preserved c =
    let l = c.loop-i in
    let t = c.args.s.now in (
      c.mark.auto.marks ∙ l.invariant.0,
      λ z. pass_more (λ a. false) (λ x. is_control_node (kind t x)) (λ x. x) _ l.i (omega (arith, c.requires.0.nodes-read)) c.mark.ensures
          (c.is_control_node.ensures ∙ ap is_control_node c.kind.ensures.0) refl (l.invariant.1 z),
    )

pub returns : goal.returns
returns c = λ z.
    let t = c.args.s.now in
    let o = c.loop-i in
    marks_ranked t o.marks
    (pass_done (λ a. false) (λ x. is_control_node (kind t x)) (λ x. x) o.i (nodes t) (λ x. is_control_node (kind t x)) (o.invariant.1 z) (omega (arith, c.requires.0.nodes-read))
    (any-below_self (λ x. is_control_node (kind t x)) (nodes t)))
