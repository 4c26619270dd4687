-- `frame_fine`: a case of the frame a return. Assumes nothing.
use Prim.Native.Nat.{ℕ, ◌+◌, ◌*◌}
use mathlib.Core.Path.{sym, ap, ◌∙◌}
use lib.Dec.{eqb}
use lib.ListN.{length}
use Rattle.terms.proofs.BoundLaws.{frame_short, frame_length, frame_version, frame_count}
use Rattle.terms.proofs.bounds.frame_fine.Goals as goal

pub returns-then-n-lt-HEADER : goal.returns-then-n-lt-HEADER
returns-then-n-lt-HEADER c = sym (frame_short c.args.x.now c.if-n-lt-HEADER.true)

pub returns-then-read16-n : goal.returns-then-read16-n
returns-then-read16-n c = let a = c.args in sym (frame_length a.x.now (λ e. c.if-read16-n.true (ap (λ (z : ℕ). z + 2) c.read16.ensures.0 ∙ e)))

pub returns-then-x-ne1 : goal.returns-then-x-ne1
returns-then-x-ne1 c = let a = c.args in sym (frame_version a.x.now (ap (λ (z : ℕ). z + 2) (sym c.read16.ensures.0) ∙ c.if-read16-n.false) c.if-x-ne1.true)

pub returns : goal.returns
returns c =
    let a = c.args in
    ap (λ (z : ℕ). eqb (length a.x.now) (4 + 9 * z)) c.wide.ensures.0
    ∙ sym (frame_count a.x.now (ap (λ (z : ℕ). z + 2) (sym c.read16.ensures.0) ∙ c.if-read16-n.false) c.if-x-ne1.false)
