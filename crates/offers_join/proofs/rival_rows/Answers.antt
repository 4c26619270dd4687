-- `offers_join::rival_rows` meets its contract: the loop has a row for each offer below i that is wanted. Assumes nothing.
use mathlib.Core.Path.{sym, ◌∙◌, subst}
use Prim.Native.Nat.{◌+◌}
use native.Mathlib.Omega.{arith}
use Rattle.offers_join.proofs.Words.{RowsBelow, rows_skip, rows-set}
use Rattle.offers_join.proofs.rival_rows.Goals as goal
use Rattle.offers_join.proofs.rival_rows.Goals.{then-in_word, else-in_word}

pub loop-i-init : goal.loop-i-init
loop-i-init c = λ t ts h j l. absurd (omega arith)

pub returns : goal.returns
returns c = λ t ts h i li w. c.loop-i.invariant t ts h i (omega arith) w

pub loop-i-preserved : goal.loop-i-preserved
loop-i-preserved c =
    let l = c.loop-i in
    let a = c.args in
    let e = c.in_word.ensures in
    elim c.if-in_word.branch [
      | then-in_word w ↦ λ t ts h.
          subst (λ z. RowsBelow t ts a.count (l.i + 1) a.wanted z) (sym w.rivals-is)
          (rows-set t ts a.count l.i a.wanted l.rivals w.rivals_of.result (omega arith) (w.rivals_of.ensures t ts h) (l.invariant t ts h))
      | else-in_word w ↦ λ t ts h.
          subst (λ z. RowsBelow t ts a.count (l.i + 1) a.wanted z) (sym w.rivals-is)
          (rows_skip t ts a.count l.i a.wanted l.rivals (sym e ∙ w.if-in_word.false) (l.invariant t ts h))
    ]
