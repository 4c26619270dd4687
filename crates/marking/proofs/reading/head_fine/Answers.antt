-- `head_fine`: frame, version and state, or the bytes are no marking. Assumes nothing.
use Rattle.marking.proofs.Laws.{framed_if, unframed_if, short_none, unframed_none, version-none, state-none}
use mathlib.Core.Path.{refl}
use mathlib.Core.Bool.{false}
use native.Mathlib.Omega.{arith}
use borrow.Author.Tests.{leb-true, leb-false}
use Rattle.paper.proofs.Bools.{never}
use Rattle.marking.proofs.reading.head_fine.Goals as goal

pub returns-then-b-lt4 : goal.returns-then-b-lt4
returns-then-b-lt4 c = (λ e. never false e refl, λ e t. short_none t c.args.b.now c.if-b-lt4.true)

pub returns-then-read16-b : goal.returns-then-read16-b
returns-then-read16-b c = let b = c.args.b.now in
    (λ e. never false e refl, λ e t. unframed_none t b (unframed_if b c.read16.result c.read16.ensures.0 c.if-read16-b.true))

pub returns-then-b-ne1 : goal.returns-then-b-ne1
returns-then-b-ne1 c = let b = c.args.b.now in (λ e. never false e refl, λ e t. version-none t b (omega arith) c.if-b-ne1.true)

pub returns : goal.returns
returns c = let b = c.args.b.now in
    let f = framed_if b c.read16.result c.read16.ensures.0 c.if-read16-b.false in
    (λ e. record { long = omega arith; in_frame = f; version-one = c.if-b-ne1.false; state = leb-true _ 1 e }, λ e t. state-none t b (omega arith) (leb-false _ 1 e))
