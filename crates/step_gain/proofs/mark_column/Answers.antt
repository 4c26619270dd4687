-- `mark_column`: one end after the other. The invariant: the marks are those that stood there and those of the ends passed. Assumes nothing.
use mathlib.Core.Path.{◌≡◌, refl}
use native.Mathlib.Omega.{arith}
use Rattle.paper.specs.Lists.{at, has}
use Rattle.words.proofs.Marks.{pass_none, pass_more}
use borrow.Author.Rules.{rules}
use Rattle.step_gain.proofs.mark_column.Goals as goal

pub loop-k-init : goal.loop-k-init
loop-k-init c = let a = c.args in (refl, λ p most l h. pass_none p (has a.c) (at a.column.now) h)

pub loop-k-preserved : goal.loop-k-preserved
loop-k-preserved c = let a = c.args in
    let l = c.loop-k in (
      search rules,
      λ p most g h. pass_more p (has a.c) (at a.column.now) _ l.k (omega (arith, g, l.invariant.0))
          c.mark.ensures c.is_taken.ensures c.wide.ensures.0
          (l.invariant.1 p most g h),
    )

pub returns : goal.returns
returns c = let a = c.args in
    let l = c.loop-k in
    let q : l.k ≡ a.n = omega arith in
    λ p most g h. rw q at (l.invariant.1 p most g h)
