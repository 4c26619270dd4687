-- `bringing`: one end after the other. The invariant: the word has those passed that are taken and have a value. Assumes nothing.
use mathlib.Core.Path.{◌≡◌, sym, ap, ◌∙◌}
use mathlib.Core.Bool.{Bool, not, ◌&&◌}
use Prim.Native.Nat.{ℕ}
use native.Mathlib.Omega.{arith}
use lib.Dec.{eqb}
use Rattle.paper.specs.Lists.{at, has}
use Rattle.offers.proofs.Sets.{marks_nil, marks_skip, marks-more}
use Rattle.step_gain.proofs.bringing.Goals as goal
use Rattle.step_gain.proofs.bringing.Goals.{then-brings_value, else-brings_value}

pub loop-k-init : goal.loop-k-init
loop-k-init c = (marks_nil _)

pub bounds-valued-wide : goal.bounds-valued-wide
bounds-valued-wide c = omega (arith, c.wide.ensures.0, c.requires.0.each-inside c.loop-k.k c.loop-k-test.true)

pub loop-k-preserved : goal.loop-k-preserved
loop-k-preserved c = let a = c.args in
    let s = c.loop-k in
    let e = c.brings_value.ensures
    ∙ ap (λ (y : ℕ). has a.c s.k && not (eqb (at a.valued.now y) 0)) c.wide.ensures.0 in
    let p : ℕ → Bool = λ j. has a.c j && not (eqb (at a.valued.now (at a.row.now j)) 0) in (
    elim c.if-brings_value.branch [
      | then-brings_value w ↦ rw (w.w-is, w.end_of-w.ensures) (marks-more p s.k s.w (sym e ∙ w.if-brings_value.true) s.invariant)
      | else-brings_value w ↦ rw w.w-is (marks_skip p s.k s.w (sym e ∙ w.if-brings_value.false) s.invariant)
    ]
    )

pub returns : goal.returns
returns c = let s = c.loop-k in
    let e : s.k ≡ c.args.n = omega arith in
    rw e at s.invariant
