-- `gain_end` stores one value or none. Assumes nothing.
use mathlib.Core.Path.{◌≡◌, sym, ◌∙◌}
use mathlib.Core.Bool.{true}
use native.Mathlib.Omega.{arith}
use lib.ListN.{length}
use Rattle.step_gain.specs.Gains.{goes_to, brought}
use Rattle.step_gain.proofs.gain_end.Goals as goal

pub returns-then-not-goes_to : goal.returns-then-not-goes_to
returns-then-not-goes_to c = let h = sym c.goes_to.ensures ∙ c.if-not-goes_to.true in (sym (rw h), rw h)

pub write32-requires : goal.write32-requires
write32-requires c =
    let goes : let a = c.args in goes_to a.target.now a.w a.i a.k ≡ true =
    sym c.goes_to.ensures ∙ c.if-not-goes_to.false in
    let a = c.args in
    let l : length (brought a.target.now a.row.now a.value.now a.w a.i a.k) ≡ 1 = rw (goes) in
    omega (arith, c.requires.4)

pub returns : goal.returns
returns c =
    let goes : let a = c.args in goes_to a.target.now a.w a.i a.k ≡ true =
    sym c.goes_to.ensures ∙ c.if-not-goes_to.false in
    (sym (rw (goes)), c.write32.ensures ∙ rw (goes, c.wide.ensures.0))
