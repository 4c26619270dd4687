-- `offers::controls` meets its contract: the loop has marked the rows below j that have no value. Assumes nothing.
use mathlib.Core.Bool.{Bool}
use mathlib.Core.Path.{◌≡◌, sym, subst}
use Prim.Native.Nat.{ℕ, ◌+◌, ◌^◌}
use lib.Dec.{eqb}
use lib.Bits.{bit_or}
use borrow.Author.Tests.{eq-eqb, ne_eqb}
use Rattle.offers.specs.Rows.{rows_in, Controls}
use Rattle.offers.proofs.Sets.{marks_skip, marks-more}
use Rattle.offers.proofs.controls.Goals.{then-rows-j-eq0, else-rows-j-eq0}
use Rattle.offers.proofs.controls.Goals as goal

pub loop-j-preserved : goal.loop-j-preserved
loop-j-preserved c =
    let l = c.loop-j in
    let a = c.args in
    let r = rows_in a.rows.now a.count in
    let p : ℕ → Bool = λ j. eqb (r.entry j).has 0 in
    elim c.if-rows-j-eq0.branch [
      | then-rows-j-eq0 w ↦ let e : bit_or l.d (2 ^ l.j) ≡ c.if-rows-j-eq0.d = cc in
          subst (λ d. Controls r (l.j + 1) d) e (marks-more p l.j l.d (eq-eqb _ 0 w.if-rows-j-eq0.true) l.invariant)
      | else-rows-j-eq0 w ↦ subst (λ d. Controls r (l.j + 1) d) (sym w.d-is)
          (marks_skip p l.j l.d (ne_eqb _ 0 w.if-rows-j-eq0.false) l.invariant)
    ]
