-- `goes_to`: of the word, and at the node. Assumes nothing.
use mathlib.Core.Path.{sym, ap, ◌∙◌}
use lib.Dec.{eqb}
use Rattle.step_gain.proofs.goes_to.Goals as goal

pub returns-then-not-is_taken : goal.returns-then-not-is_taken
returns-then-not-is_taken c = sym (rw (sym c.is_taken.ensures ∙ c.if-not-is_taken.true))

pub returns : goal.returns
returns c = let a = c.args in
    ap (λ x. eqb x a.i) c.wide.ensures.0 ∙ sym (rw (sym c.is_taken.ensures ∙ c.if-not-is_taken.false))
