-- `is_last`: taken, and its target an activity final. Assumes nothing.
use mathlib.Core.Path.{◌≡◌, sym, ap, ◌∙◌}
use mathlib.Core.Bool.{true}
use native.Mathlib.Omega.{arith}
use lib.Dec.{eqb}
use Rattle.paper.specs.Lists.{has}
use Rattle.paper.specs.Table.{kind as kind_of}
use Rattle.step_close.proofs.is_last.Goals as goal

pub returns-then-not-is_taken : goal.returns-then-not-is_taken
returns-then-not-is_taken c = sym (rw (sym c.is_taken.ensures ∙ c.if-not-is_taken.true))

pub kind-requires : goal.kind-requires
kind-requires c = let p = c.requires in (p.0, omega (arith, c.wide.ensures.0))

pub returns : goal.returns
returns c = let a = c.args in
    let h : has a.c a.k ≡ true = sym c.is_taken.ensures ∙ c.if-not-is_taken.false in
    ap (λ x. eqb x 13) (c.kind.ensures.0 ∙ ap (kind_of a.t.now) c.wide.ensures.0) ∙ sym (rw h)
