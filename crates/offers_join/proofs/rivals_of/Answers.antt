-- `offers_join::rivals_of` meets its contract: the loop has marked the rows below j that compete with row i. Assumes nothing.
use mathlib.Core.Path.{sym, ap, ◌∙◌, subst}
use mathlib.Core.Bool.{Bool}
use Prim.Native.Nat.{ℕ, ◌+◌, ◌<◌}
use native.Mathlib.Omega.{arith}
use lib.Bits.{bit_or}
use lib.ListN.{length}
use Rattle.offers.specs.Sets.{Marks, words_clash}
use Rattle.offers.specs.Rows.{rows_in, cell}
use Rattle.offers.proofs.Sets.{marks_nil, marks_skip, marks-more}
use Rattle.offers.proofs.Rows.{rows-compete}
use Rattle.offers_join.proofs.rivals_of.Goals as goal
use Rattle.offers_join.proofs.rivals_of.Goals.{then-compete, else-compete}

pub overflow_mul-m : goal.overflow_mul-m
overflow_mul-m c = omega (arith, c.requires)

pub bounds-rows-i : goal.bounds-rows-i
bounds-rows-i c = omega (arith, c.requires)

pub bounds-rows-i-2 : goal.bounds-rows-i-2
bounds-rows-i-2 c = omega arith

pub loop-j-init : goal.loop-j-init
loop-j-init c = marks_nil _

pub offset_bounds-rows-j : goal.offset_bounds-rows-j
offset_bounds-rows-j c = omega arith

pub overflow_mul-j-in-loop-j : goal.overflow_mul-j-in-loop-j
overflow_mul-j-in-loop-j c = omega (arith, c.loop-j-test.true)

pub offset_bounds-rows-j-in-loop-j : goal.offset_bounds-rows-j-in-loop-j
offset_bounds-rows-j-in-loop-j c = omega arith

pub bounds-rows-j-in-loop-j : goal.bounds-rows-j-in-loop-j
bounds-rows-j-in-loop-j c = omega arith

pub bit_of-d-requires : goal.bit_of-d-requires
bit_of-d-requires c = omega arith

pub returns : goal.returns
returns c = λ t ts h j lj.
    let l = c.loop-j in
    let a = c.args in
    let i : a.i < length ts = omega (arith, h.count-is, c.requires.0) in
    let u : j < length ts = omega (arith, h.count-is) in
    l.invariant.says j (omega arith) ∙ sym (rows-compete t (rows_in a.rows.now a.count) ts h a.i j i u)

pub loop-j-preserved : goal.loop-j-preserved
loop-j-preserved c =
    let l = c.loop-j in
    let a = c.args in
    let p : ℕ → Bool = λ x. words_clash (cell a.rows.now a.i 7) (cell a.rows.now a.i 6) (cell a.rows.now x 7) (cell a.rows.now x 6) in
    let e = c.compete.ensures in
    elim c.if-compete.branch [
      | then-compete w ↦ subst (λ d. Marks p (l.j + 1) d) (ap (λ b. bit_or l.d b) (sym w.bit_of-d.ensures) ∙ sym w.d-is)
          (marks-more p l.j l.d (sym e ∙ w.if-compete.true) l.invariant)
      | else-compete w ↦ subst (λ d. Marks p (l.j + 1) d) (sym w.d-is)
          (marks_skip p l.j l.d (sym e ∙ w.if-compete.false) l.invariant)
    ]
