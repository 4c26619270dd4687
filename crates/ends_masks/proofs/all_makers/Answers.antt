-- `ends_masks::all_makers` meets its contract: the word has the makers of the taken ends below k. Assumes nothing.
use mathlib.Core.Path.{◌≡◌, ap, ◌∙◌}
use Prim.Native.Nat.{ℕ}
use native.Mathlib.Omega.{arith}
use Rattle.ends_masks.specs.Seating.{makes}
use Rattle.ends_masks.proofs.Masks.{makes_none, makes-more}
use Rattle.ends_masks.proofs.all_makers.Goals as goal

pub loop-k-init : goal.loop-k-init
loop-k-init c = λ y. makes_none _ _ y

pub loop-k-preserved : goal.loop-k-preserved
loop-k-preserved c =
    let l = c.loop-k in
    let a = c.args in
    λ y. makes-more a.makers.now a.c l.k l.w _ y (l.invariant y) (c.makers_if_taken-w.ensures y)

pub returns : goal.returns
returns c = λ y.
    let a = c.args in
    let e : c.loop-k.k ≡ a.n = omega arith in
    c.loop-k.invariant y ∙ ap (λ (m : ℕ). makes a.makers.now m a.c y) e
