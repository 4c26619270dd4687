-- `offers_over::extend_all` meets its contract: the loop has dealt with the offers from a to i. Assumes nothing.
use mathlib.Core.Path.{◌≡◌, sym, ap, ◌∙◌, subst}
use Prim.Native.Nat.{◌-◌}
use native.Mathlib.Omega.{arith}
use borrow.Author.Rules.{rules}
use Rattle.offers.specs.Rows.{rows_in, Holds}
use Rattle.offers_over.proofs.Parts.{extended, extended_none, extended_all, extended_ext, extended_next, extended_bad}
use Rattle.offers_over.proofs.extend_all.Goals as goal

pub loop-i-init : goal.loop-i-init
loop-i-init c = (
  search rules,
  λ t ts xs y.
      let a = c.args in
      let z : 0 ≡ a.a - a.a = omega arith in
      subst (λ w. Holds t (rows_in a.rows.now a.count) w) (sym (extended_none y) ∙ ap (extended y) z) y.holds_ts,
)

pub returns-in_err-c : goal.returns-in_err-c
returns-in_err-c c =
    let l = c.loop-i in
    let lb = c.loop-i-test.true in
    rw c.from_residual.ensures (tt, λ t ts xs y. extended_bad y l.i l.auto.i lb (c.in_err-c.ensures.1 t _ _ (extended_ext y l.i l.auto.i lb (l.invariant.1 t ts xs y))))

pub loop-i-preserved : goal.loop-i-preserved
loop-i-preserved c =
    let l = c.loop-i in
    let x = c.in_ok-c.ensures in
    let lb = c.loop-i-test.true in (
      omega (arith, x.0),
      λ t ts xs y.
          let w = x.1 t _ _ (extended_ext y l.i l.auto.i lb (l.invariant.1 t ts xs y)) in
          subst (λ z. Holds t (rows_in c.extend_one.new.rows c.in_ok-c.c) z) (extended_next y l.i l.auto.i lb) w,
    )

pub returns : goal.returns
returns c = (
  search rules,
  λ t ts xs y. subst (λ z. Holds t (rows_in c.loop-i.rows c.loop-i.c) z) (extended_all y c.loop-i.i (omega arith)) (c.loop-i.invariant.1 t ts xs y),
)
