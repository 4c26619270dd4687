-- `find`: the entries before are below the edge. Assumes nothing.
use mathlib.Core.Path.{◌≡◌, sym, ◌∙◌}
use native.Mathlib.Omega.{arith}
use borrow.Author.Count.{below_more}
use Rattle.terms.proofs.BoundLaws.{edge-read, found_here, found_none, found_passed}
use Rattle.terms.proofs.bounds.find.Goals as goal

pub loop-k-init : goal.loop-k-init
loop-k-init c = λ j l. absurd (omega arith)

pub bounds-x-k : goal.bounds-x-k
bounds-x-k c = let h = c.requires in omega (arith, c.loop-k-test.true, h.inside (omega (arith, c.loop-k-test.true)))

pub wide-f-requires : goal.wide-f-requires
wide-f-requires c = tt

pub returns-then-e-f : goal.returns-then-e-f
returns-then-e-f c =
    let a = c.args in
    (c.loop-k-test.true, λ t f. found_here f a.e a.n c.requires _ c.loop-k-test.true (sym (edge-read a.x.now _ _ c.wide-f.ensures.0) ∙ sym c.if-e-f.true))

pub returns-then-e-f-2 : goal.returns-then-e-f-2
returns-then-e-f-2 c =
    let a = c.args in
    let r = edge-read a.x.now c.loop-k.k _ c.wide-f.ensures.0 in
    (tt, λ t f. found_passed f a.e a.n c.requires c.loop-k.k c.loop-k-test.true c.loop-k.invariant (omega (arith, c.if-e-f-2.true, r)))

pub loop-k-preserved : goal.loop-k-preserved
loop-k-preserved c =
    let a = c.args in
    let r = edge-read a.x.now c.loop-k.k _ c.wide-f.ensures.0 in
    let u : a.e ≡ c.wide-f.result → ⊥ = c.if-e-f.false in
    below_more _ _ c.loop-k.invariant (omega (arith, c.if-e-f-2.false, u, r))

pub returns : goal.returns
returns c =
    let a = c.args in
    (tt, λ t f. found_none f a.e a.n c.requires (λ j l. c.loop-k.invariant j (omega (arith, l, c.loop-k-test.false))))
