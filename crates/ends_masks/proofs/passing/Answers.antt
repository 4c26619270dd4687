-- `ends_masks::passing` meets its contract: the word marks the numbers below k that pass. Assumes nothing.
use mathlib.Core.Path.{sym, ◌∙◌}
use Rattle.offers.proofs.Sets.{marks_skip, marks-more}
use Rattle.ends_masks.proofs.passing.Goals as goal
use Rattle.ends_masks.proofs.passing.Goals.{then-passes, else-passes}

pub loop-k-preserved : goal.loop-k-preserved
loop-k-preserved g c = λ p h.
    let l = c.loop-k in
    let m = l.invariant p h in
    let e = h l.k c.passes.result c.loop-k-test.true c.passes.ensures in
    elim c.if-passes.branch [
      | then-passes w ↦ rw (w.w-is, w.bit_of-w.ensures) (marks-more p l.k l.w (sym e ∙ w.if-passes.true) m)
      | else-passes w ↦ rw w.w-is (marks_skip p l.k l.w (sym e ∙ w.if-passes.false) m)
    ]
