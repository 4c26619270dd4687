-- `decide`: taken if it may be had. Assumes nothing.
use mathlib.Core.Path.{sym, ap, ◌∙◌}
use mathlib.Core.Bool.{Bool, cond}
use native.Mathlib.Omega.{arith}
use Rattle.pick_search.specs.Searching.{stepped}
use Rattle.pick_search.proofs.decide.Goals as goal

pub step-requires : goal.step-requires
step-requires c = let p = c.requires in (p.0, p.1, omega arith)

pub returns-then-meets : goal.returns-then-meets
returns-then-meets c = let p = c.args.p in c.step.ensures ∙ ap (λ (t : Bool). stepped p (cond t p.bit 0)) (sym (sym c.meets.ensures ∙ c.if-meets.true))

pub step-requires-2 : goal.step-requires-2
step-requires-2 c = let p = c.requires in (p.0, p.1, omega arith)

pub returns : goal.returns
returns c = let p = c.args.p in c.step-2.ensures ∙ ap (λ (t : Bool). stepped p (cond t p.bit 0)) (sym (sym c.meets.ensures ∙ c.if-meets.false))
