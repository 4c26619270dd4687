-- `spend_tokens`: one edge after the other. Assumes nothing.
use mathlib.Core.Path.{◌≡◌, ap, ◌∙◌}
use mathlib.Core.Bool.{Bool, cond}
use native.Mathlib.Omega.{arith}
use Rattle.paper.specs.Lists.{at}
use Rattle.words.specs.Marks.{is_marked}
use Rattle.words.proofs.Marks.{mark_test}
use Rattle.marking_held.proofs.Fillings.{filled_none, filled_set, filled_as}
use Rattle.step_spend.proofs.spend_tokens.Goals as goal

pub loop-e-init : goal.loop-e-init
loop-e-init c = let a = c.args in
    (filled_none (λ e. cond (is_marked a.spent.now e) 0 (at a.tokens.now e)) a.tokens.now)

pub loop-e-preserved : goal.loop-e-preserved
loop-e-preserved c = let a = c.args in
    let g = c.loop-e.invariant in
    let v = c.tokens_left in (
    filled_set g v.result (omega (arith, g.long, c.requires.2))
    (v.ensures ∙ ap (cond (is_marked a.spent.now c.loop-e.e) 0) (g.rest c.loop-e.e (omega arith)))
    )

pub returns : goal.returns
returns c = let a = c.args in
    let q : c.loop-e.e ≡ a.table.edges = omega arith in
    λ p k. filled_as (rw q at c.loop-e.invariant) (λ e. cond (p e) 0 (at a.tokens.now e))
    (λ e l. ap (λ (g : Bool). cond g 0 (at a.tokens.now e)) (mark_test k e (omega (arith, c.requires.0))))
