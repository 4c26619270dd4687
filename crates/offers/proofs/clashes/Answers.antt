-- `offers::clashes` meets its contract: the loop has marked the rows below j that clash. Assumes nothing.
use mathlib.Core.Bool.{Bool}
use mathlib.Core.Path.{sym, ap, ◌∙◌, subst}
use Prim.Native.Nat.{ℕ, ◌+◌}
use lib.Bits.{bit_or}
use Rattle.words.specs.Clash.{hit}
use Rattle.offers.specs.Rows.{rows_in, Hits}
use Rattle.offers.proofs.Sets.{marks_skip, marks-more}
use Rattle.offers.proofs.clashes.Goals.{then-hits, else-hits}
use Rattle.offers.proofs.clashes.Goals as goal

pub loop-j-preserved : goal.loop-j-preserved
loop-j-preserved c =
    let l = c.loop-j in
    let a = c.args in
    let r = rows_in a.rows.now a.count in
    let p : ℕ → Bool = λ j. hit a.n a.k a.a (r.entry j).node (r.entry j).parents a.c in
    let e = c.hits.ensures in
    elim c.if-hits.branch [
      | then-hits w ↦ subst (λ d. Hits r a.n a.k a.a a.c (l.j + 1) d) (ap (λ b. bit_or l.d b) (sym w.bit_of-d.ensures) ∙ sym w.d-is)
          (marks-more p l.j l.d (sym e ∙ w.if-hits.true) l.invariant)
      | else-hits w ↦ subst (λ d. Hits r a.n a.k a.a a.c (l.j + 1) d) (sym w.d-is)
          (marks_skip p l.j l.d (sym e ∙ w.if-hits.false) l.invariant)
    ]
