-- `pin_wrong`: an input pin whose action starts, with too few or too many. Assumes nothing.
use mathlib.Core.Path.{sym, ap, ap₂, ◌∙◌}
use Prim.Native.Nat.{ℕ}
use native.Mathlib.Omega.{arith}
use lib.Dec.{ltb}
use borrow.Author.Tests.{eq-eqb, ne_eqb}
use Rattle.paper.specs.Table.{is_input}
use Rattle.words.specs.Marks.{is_marked}
use Rattle.choice_agree.proofs.Unfit.{pin_other, pin_idle, pin_low, pin_high}
use Rattle.choice_agree.proofs.pin_wrong.Goals as goal

pub returns-then-kind-ne-INPUT : goal.returns-then-kind-ne-INPUT
returns-then-kind-ne-INPUT c = let a = c.args in
    sym (pin_other a.t.now (is_marked a.starting.now) a.c a.by_target.now a.p (sym (ap is_input c.kind.ensures.0) ∙ ne_eqb _ 3 c.if-kind-ne-INPUT.true))

pub returns-then-not-is_marked : goal.returns-then-not-is_marked
returns-then-not-is_marked c = let a = c.args in
    let s = is_marked a.starting.now in
    sym (pin_idle a.t.now s a.c a.by_target.now a.p (sym (c.is_marked.ensures ∙ ap s c.owner.ensures.0) ∙ c.if-not-is_marked.true))

pub returns-then-k-lower : goal.returns-then-k-lower
returns-then-k-lower c = let a = c.args in
    let s = is_marked a.starting.now in
    sym (pin_low a.t.now s a.c a.by_target.now a.p (sym (ap is_input c.kind.ensures.0) ∙ eq-eqb _ 3 c.if-kind-ne-INPUT.false)
    (sym (c.is_marked.ensures ∙ ap s c.owner.ensures.0) ∙ c.if-not-is_marked.false) (omega (arith, c.if-k-lower.true, c.lower.ensures.0, c.taken_of-k.ensures.0)))

pub returns : goal.returns
returns c = let a = c.args in
    let s = is_marked a.starting.now in
    ap₂ (λ (x y : ℕ). ltb x y) c.upper.ensures.0 c.taken_of-k.ensures.0
    ∙ sym (pin_high a.t.now s a.c a.by_target.now a.p (sym (ap is_input c.kind.ensures.0) ∙ eq-eqb _ 3 c.if-kind-ne-INPUT.false)
    (sym (c.is_marked.ensures ∙ ap s c.owner.ensures.0) ∙ c.if-not-is_marked.false) (omega (arith, c.if-k-lower.false, c.lower.ensures.0, c.taken_of-k.ensures.0)))
