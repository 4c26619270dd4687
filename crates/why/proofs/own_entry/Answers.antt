-- `own_entry`: an entry, or a number that no one has. Assumes nothing.
use mathlib.Core.Path.{sym, ap, ◌∙◌}
use mathlib.Core.Bool.{Bool, cond}
use borrow.Author.Tests.{eq-eqb, ne_eqb}
use Rattle.why.proofs.own_entry.Goals as goal

pub returns-then-wide-own : goal.returns-then-wide-own
returns-then-wide-own c = let a = c.args in sym (ap (λ (b : Bool). cond b a.entry 255) (eq-eqb a.home a.own (sym c.wide.ensures.0 ∙ c.if-wide-own.true)))

pub returns : goal.returns
returns c = let a = c.args in sym (ap (λ (b : Bool). cond b a.entry 255) (ne_eqb a.home a.own (λ e. c.if-wide-own.false (c.wide.ensures.0 ∙ e))))
