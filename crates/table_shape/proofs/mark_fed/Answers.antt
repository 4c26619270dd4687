-- `mark_fed` marks the actions that a pin feeds. Assumes nothing.
use mathlib.Core.Path.{sym, ◌∙◌}
use mathlib.Core.Bool.{false, ◌&&◌}
use native.Mathlib.Omega.{arith}
use lib.Dec.{leb}
use Rattle.paper.specs.Table.{nodes, kind, owner, lower, is_input}
use Rattle.paper.proofs.Shapes.{fed_by}
use Rattle.words.proofs.Marks.{pass_more, pass_done}
use Rattle.table_shape.specs.Shape.{is_fed}
use Rattle.table_shape.proofs.mark_fed.Goals as goal

pub loop-i-preserved : goal.loop-i-preserved
loop-i-preserved c =
    let l = c.loop-i in
    let t = c.args.s.now in (
      c.mark.auto.marks ∙ l.invariant.0,
      λ z. pass_more (λ a. false) (λ c. is_input (kind t c) && leb 1 (lower t c)) (owner t) _ l.i (omega (arith, c.requires.0.nodes-read)) c.mark.ensures
          c.feeds.ensures c.owner.ensures.0 (l.invariant.1 z),
    )

pub returns : goal.returns
returns c = λ z.
    let t = c.args.s.now in
    let o = c.loop-i in
    pass_done (λ a. false) (λ p. is_input (kind t p) && leb 1 (lower t p)) (owner t) o.i (nodes t) (is_fed t) (o.invariant.1 z) (omega (arith, c.requires.0.nodes-read)) (λ a l. sym (fed_by t a))
