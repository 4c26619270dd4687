-- `offers_over::pass` meets its contract: the loop goes through the list of the incoming edges. Assumes nothing.
use mathlib.Core.Path.{subst}
use native.Mathlib.Omega.{arith}
use borrow.Author.Rules.{rules}
use Rattle.offers.specs.Rows.{rows_in, Holds}
use Rattle.offers_over.proofs.Parts.{passing_all, passing_ext, passing_bad, passing_more}
use Rattle.offers_over.proofs.pass.Goals as goal

pub returns-in_err-c : goal.returns-in_err-c
returns-in_err-c c =
    rw c.from_residual.ensures (
      tt,
      λ t ts on y.
          let p = c.loop-j.invariant.1 t ts on y in
          passing_bad y p c.loop-j-test.true (c.in_err-c.ensures.1 t _ _ (passing_ext y p c.loop-j-test.true c.wide-in-loop-j.ensures.0 c.wide-in-loop-j-2.ensures.0)),
    )

pub loop-j-preserved : goal.loop-j-preserved
loop-j-preserved c =
    let l = c.loop-j in
    let x = c.in_ok-c.ensures in (
      omega (arith, x.0),
      λ t ts on y.
          let p = l.invariant.1 t ts on y in
          let w = x.1 t _ _ (passing_ext y p c.loop-j-test.true c.wide-in-loop-j.ensures.0 c.wide-in-loop-j-2.ensures.0) in
          passing_more y p c.loop-j-test.true c.wide-j-in-loop-j.ensures.0 w,
    )

pub returns : goal.returns
returns c = (
  search rules,
  λ t ts on y.
      let p = c.loop-j.invariant.1 t ts on y in
      subst (λ z. Holds t (rows_in c.loop-j.rows c.loop-j.c) z) (passing_all y p (omega (arith, c.loop-j-test.false))) p.held,
)
