-- `passes`: the invariant says that the set obeys the rules before i. Assumes nothing.
use mathlib.Core.Path.{sym, ◌∙◌}
use native.Mathlib.Omega.{arith}
use borrow.Author.Tests.{leb-true, leb-false}
use Rattle.pick_bounds.specs.Net.{held}
use Rattle.pick_bounds.proofs.Rules.{passes-all, passes_unwanted, passes_broken}
use Rattle.pick_bounds.proofs.Pruning.{passes-rivals, apart-each}
use Rattle.pick_bounds.proofs.passes.Goals as goal

pub returns-then-not-has_least : goal.returns-then-not-has_least
returns-then-not-has_least c = let a = c.args in
    let z = leb-false a.want.least (held 32 a.c a.want.ends) (sym c.has_least.ensures ∙ c.if-not-has_least.true) in
    sym (passes_unwanted a.net.now a.want 32 a.c (omega arith))

pub returns-then-not-is_apart : goal.returns-then-not-is_apart
returns-then-not-is_apart c = let a = c.args in
    sym (passes-rivals a.net.now a.c a.want (sym c.is_apart.ensures ∙ c.if-not-is_apart.true))

pub returns-then-not-obeys : goal.returns-then-not-obeys
returns-then-not-obeys c = let a = c.args in
    let l = c.loop-i in
    let t = c.loop-i-test.true in
    sym (passes_broken a.net.now a.want 32 a.c l.i (omega (arith, c.size-i-end.ensures)) c.rule_at.result c.rule_at.ensures (sym c.obeys.ensures ∙ c.if-not-obeys.true))

pub returns : goal.returns
returns c = let a = c.args in
    let l = c.loop-i in
    let z = leb-true a.want.least (held 32 a.c a.want.ends) (sym c.has_least.ensures ∙ c.if-not-has_least.false) in
    let t = c.loop-i-test.false in
    let q = c.size-i-end.ensures in
    sym (passes-all a.net.now a.want 32 a.c (omega arith) (apart-each a.net.now a.c (sym c.is_apart.ensures ∙ c.if-not-is_apart.false)) (λ j h. l.invariant j (omega arith)))
