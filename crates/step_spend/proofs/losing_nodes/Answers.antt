-- `losing_nodes`: one edge after the other. The invariant: the marks are those of the edges passed. Assumes nothing.
use mathlib.Core.Path.{refl}
use mathlib.Core.Bool.{false}
use native.Mathlib.Omega.{arith}
use Rattle.paper.specs.Limits.{limits}
use Rattle.paper.specs.Table.{edges, source}
use Rattle.words.proofs.Marks.{pass_more, pass_done, mark_test}
use Rattle.table.proofs.Reading.{blank}
use Rattle.step_spend.specs.Spending.{loses}
use Rattle.step_spend.proofs.Spends.{leaves}
use Rattle.step_spend.proofs.losing_nodes.Goals as goal

pub loop-e-init : goal.loop-e-init
loop-e-init c = (refl, λ p m. record { tell = λ a l. blank limits.most_nodes a })

pub loop-e-preserved : goal.loop-e-preserved
loop-e-preserved c = let l = c.loop-e in (
  omega (arith, c.mark.auto, l.invariant.0),
  λ p m. pass_more (λ a. false) p (source c.args.t.now) _ l.e (omega (arith, l.invariant.0)) c.mark.ensures
      (mark_test m l.e (omega (arith, c.requires.0.edges-read, c.requires.0.few-edges))) c.source.ensures.0 (l.invariant.1 p m),
)

pub returns : goal.returns
returns c = let t = c.args.t.now in
    let l = c.loop-e in
    λ p m. pass_done (λ a. false) p (source t) l.e (edges t) (loses p t) (l.invariant.1 p m) (omega (arith, c.requires.0.edges-read)) (λ i _. leaves p t i)
