-- `guards_fine`: a byte for each edge, one after the other. Assumes nothing.
use mathlib.Core.Path.{sym, ◌∙◌}
use native.Mathlib.Omega.{arith}
use borrow.Author.Count.{below_more}
use Rattle.terms.proofs.GuardLaws.{guards-number, guards-fail, guards_pass}
use Rattle.terms.proofs.guards.guards_fine.Goals as goal

pub returns-then-g-n : goal.returns-then-g-n
returns-then-g-n c = let a = c.args in sym (guards-number a.t.now a.g.now (λ e. c.if-g-n.true (omega (arith, e, c.requires))))

pub loop-j-init : goal.loop-j-init
loop-j-init c = λ k l. absurd (omega arith)

pub guard_fine-requires : goal.guard_fine-requires
guard_fine-requires c = let h = c.requires in (h, omega arith, omega arith)

pub returns-then-not-guard_fine : goal.returns-then-not-guard_fine
returns-then-not-guard_fine c = let a = c.args in let s = c.requires in sym (guards-fail a.t.now a.g.now (omega arith) c.loop-j.j (omega arith) (sym c.guard_fine.ensures ∙ c.if-not-guard_fine.true))

pub loop-j-preserved : goal.loop-j-preserved
loop-j-preserved c = below_more _ _ c.loop-j.invariant (sym c.guard_fine.ensures ∙ c.if-not-guard_fine.false)

pub returns : goal.returns
returns c = let a = c.args in let s = c.requires in sym (guards_pass a.t.now a.g.now (omega arith) (λ k l. c.loop-j.invariant k (omega arith)))
