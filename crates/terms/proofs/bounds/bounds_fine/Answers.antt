-- `bounds_fine`: the frame, then the entries one after the other. Assumes nothing.
use mathlib.Core.Path.{sym, ◌∙◌}
use native.Mathlib.Omega.{arith}
use borrow.Author.Count.{below_more}
use Rattle.terms.proofs.BoundLaws.{frame_long, bounds_unframed, bounds-fail, bounds_pass, count-read}
use Rattle.terms.proofs.bounds.bounds_fine.Goals as goal

pub frame_fine-requires : goal.frame_fine-requires
frame_fine-requires c = tt

pub returns-then-not-frame_fine : goal.returns-then-not-frame_fine
returns-then-not-frame_fine c = let a = c.args in sym (bounds_unframed a.t.now a.x.now (sym c.frame_fine.ensures ∙ c.if-not-frame_fine.true))

pub bounds-x-3 : goal.bounds-x-3
bounds-x-3 c = let a = c.args in omega (arith, frame_long a.x.now (sym c.frame_fine.ensures ∙ c.if-not-frame_fine.false))

pub wide-n-requires : goal.wide-n-requires
wide-n-requires c = tt

pub loop-k-init : goal.loop-k-init
loop-k-init c = λ j l. absurd (omega arith)

pub bound_fine-requires : goal.bound_fine-requires
bound_fine-requires c =
    let a = c.args in
    let w = c.wide-n.ensures in
    let l = frame_long a.x.now (sym c.frame_fine.ensures ∙ c.if-not-frame_fine.false) in
    let n = count-read a.x.now _ w.0 in
    (c.requires, omega (arith, c.loop-k-test.true, w.1), omega (arith, c.loop-k-test.true, l, n))

pub returns-then-not-bound_fine : goal.returns-then-not-bound_fine
returns-then-not-bound_fine c =
    let a = c.args in
    let f = sym c.frame_fine.ensures ∙ c.if-not-frame_fine.false in
    let n = count-read a.x.now _ c.wide-n.ensures.0 in
    sym (bounds-fail a.t.now a.x.now f c.loop-k.k (omega (arith, c.loop-k-test.true, n)) (sym c.bound_fine.ensures ∙ c.if-not-bound_fine.true))

pub loop-k-preserved : goal.loop-k-preserved
loop-k-preserved c = below_more _ _ c.loop-k.invariant (sym c.bound_fine.ensures ∙ c.if-not-bound_fine.false)

pub returns : goal.returns
returns c =
    let a = c.args in
    let f = sym c.frame_fine.ensures ∙ c.if-not-frame_fine.false in
    let n = count-read a.x.now _ c.wide-n.ensures.0 in
    sym (bounds_pass a.t.now a.x.now f (λ k l. c.loop-k.invariant k (omega (arith, l, n, c.loop-k-test.false))))
