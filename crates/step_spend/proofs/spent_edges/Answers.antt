-- `spent_edges`: one row after the other. The invariant: the marks are those of the rows passed. Assumes nothing.
use mathlib.Core.Path.{refl}
use mathlib.Core.Bool.{false, ◌&&◌}
use native.Mathlib.Omega.{arith}
use lib.Dec.{eqb}
use Rattle.paper.specs.Lists.{at, has}
use Rattle.paper.specs.Limits.{limits}
use Rattle.words.proofs.Marks.{pass_more, pass_done}
use Rattle.table.proofs.Reading.{blank}
use Rattle.step_spend.specs.Spending.{spends}
use Rattle.step_spend.proofs.spent_edges.Goals as goal

pub loop-y-init : goal.loop-y-init
loop-y-init c = (refl, record { tell = λ a l. blank limits.most_edges a })

pub loop-y-preserved : goal.loop-y-preserved
loop-y-preserved c = let a = c.args in
    let l = c.loop-y in (
      omega (arith, c.mark.auto, l.invariant.0),
      pass_more (λ a. false) (λ y. has a.w y && eqb (at a.parents.now y) 0) (at a.last.now) _ l.y
          (omega (arith, l.invariant.0)) c.mark.ensures c.is_first.ensures c.wide.ensures.0 l.invariant.1,
    )

pub returns : goal.returns
unfolding spends
returns c = let a = c.args in
    let l = c.loop-y in
    pass_done (λ a. false) (λ y. has a.w y && eqb (at a.parents.now y) 0) (at a.last.now) l.y a.rows
    (spends a.last.now a.parents.now a.rows a.w) l.invariant.1 (omega arith) (λ e l. refl)
