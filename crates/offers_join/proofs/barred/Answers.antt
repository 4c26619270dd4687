-- `offers_join::barred` meets its contract: the loop has marked the rows below j that the gate doesn't let over. Assumes nothing.
use mathlib.Core.Path.{sym, ap, ◌∙◌, subst}
use mathlib.Core.Bool.{Bool, not}
use Prim.Native.Nat.{ℕ, ◌+◌, ◌<◌}
use native.Mathlib.Omega.{arith}
use lib.Bits.{bit_or}
use lib.ListN.{length}
use Rattle.offers.specs.Sets.{Marks}
use Rattle.offers.specs.Rows.{cell, value_of}
use Rattle.offers_over.specs.Over.{admitted}
use Rattle.offers.proofs.Sets.{marks_nil, marks_skip, marks-more}
use Rattle.offers_join.proofs.barred.Goals as goal
use Rattle.offers_join.proofs.barred.Goals.{then-not-admits, else-not-admits}

pub loop-j-init : goal.loop-j-init
loop-j-init c = marks_nil _

pub returns : goal.returns
returns c = λ t ts h j lj.
    let l = c.loop-j in
    let a = c.args in
    let u : j < length ts = omega (arith, h.count-is) in
    l.invariant.says j (omega arith) ∙ ap (λ v. not (admitted a.gate v)) (h.rows j u).value-is

pub loop-j-preserved : goal.loop-j-preserved
loop-j-preserved c =
    let l = c.loop-j in
    let a = c.args in
    let p : ℕ → Bool = λ x. not (admitted a.gate (value_of (cell a.rows.now x 2) (cell a.rows.now x 3))) in
    let e = ap not (sym c.admits.ensures) in
    elim c.if-not-admits.branch [
      | then-not-admits w ↦ subst (λ d. Marks p (l.j + 1) d) (ap (λ b. bit_or l.d b) (sym w.bit_of-d.ensures) ∙ sym w.d-is)
          (marks-more p l.j l.d (e ∙ ap not w.if-not-admits.true) l.invariant)
      | else-not-admits w ↦ subst (λ d. Marks p (l.j + 1) d) (sym w.d-is)
          (marks_skip p l.j l.d (e ∙ ap not w.if-not-admits.false) l.invariant)
    ]
