-- `pick_rules::barred_at_node` meets its contract, kind by kind. Assumes nothing.
use mathlib.Core.Path.{sym, ◌∙◌}
use native.Mathlib.Omega.{arith}
use borrow.Author.Tests.{eq-eqb, ne_eqb}
use Rattle.table.proofs.Reading.{read-spans}
use Rattle.choice_masks.proofs.Masking.{at_target, at_both}
use Rattle.pick_rules.proofs.Masks.{marks_empty, bars_none}
use Rattle.pick_rules.proofs.Kept.{idle_bars, busy_bars, pin_bars, pin_manned, pin_idle, node_elsewhere}
use Rattle.pick_rules.proofs.Allowed.{owner-inside}
use Rattle.pick_rules.proofs.barred_at_node.Goals as goal

pub kind-kind-requires : goal.kind-kind-requires
kind-kind-requires c = let p = c.requires in (read-spans _ p.0, p.1)

pub returns-then-runs-i-eq0 : goal.returns-then-runs-i-eq0
returns-then-runs-i-eq0 c = λ byEdge edge target home stock n m.
    let a = c.args in
    bars_none n (idle_bars a.t.now target home a.runs.now stock n a.i (sym c.kind-kind.ensures.0 ∙ c.if-kind-eq-ACTION.true) c.if-runs-i-eq0.true)

pub returns-then-kind-eq-ACTION : goal.returns-then-kind-eq-ACTION
returns-then-kind-eq-ACTION c = λ byEdge edge target home stock n m.
    let a = c.args in
    rw c.owned.ensures
    (busy_bars a.t.now target home a.runs.now stock n a.i _ (sym c.kind-kind.ensures.0 ∙ c.if-kind-eq-ACTION.true) c.if-runs-i-eq0.false
    (at_both m a.i c.requires.1))

pub returns-then-kind-ne-INPUT : goal.returns-then-kind-ne-INPUT
returns-then-kind-ne-INPUT c = λ byEdge edge target home stock n m.
    let a = c.args in
    let k = c.kind-kind.ensures.0 in
    bars_none n (node_elsewhere a.t.now target home a.runs.now stock n a.i (λ e. c.if-kind-eq-ACTION.false (k ∙ e)) (λ e. c.if-kind-ne-INPUT.true (k ∙ e)))

pub returns-then-by_target-i-ne0 : goal.returns-then-by_target-i-ne0
returns-then-by_target-i-ne0 c = λ byEdge edge target home stock n m.
    let a = c.args in
    bars_none n
    (pin_manned a.t.now target home a.runs.now stock n a.i (sym c.kind-kind.ensures.0 ∙ c.if-kind-ne-INPUT.false)
    (sym (marks_empty (at_target m a.i c.requires.1)) ∙ ne_eqb _ 0 c.if-by_target-i-ne0.true))

pub lower-requires : goal.lower-requires
lower-requires c = let p = c.requires in (read-spans _ p.0, p.1)

pub returns-then-lower-eq0 : goal.returns-then-lower-eq0
returns-then-lower-eq0 c = λ byEdge edge target home stock n m.
    let a = c.args in
    bars_none n
    (pin_idle a.t.now target home a.runs.now stock n a.i (sym c.kind-kind.ensures.0 ∙ c.if-kind-ne-INPUT.false)
    (sym c.lower.ensures.0 ∙ c.if-lower-eq0.true))

pub owner-requires : goal.owner-requires
owner-requires c = let p = c.requires in (read-spans _ p.0, p.1)

pub owned-requires-2 : goal.owned-requires-2
owned-requires-2 c =
    let p = c.requires in
    let l = owner-inside _ p.0 c.args.i p.1 (sym c.kind-kind.ensures.0 ∙ c.if-kind-ne-INPUT.false) in
    (omega (arith, c.owner.ensures.0, p.2), omega (arith, c.owner.ensures.0, p.3))

pub returns : goal.returns
returns c = λ byEdge edge target home stock n m.
    let a = c.args in
    let p = c.requires in
    let k = sym c.kind-kind.ensures.0 ∙ c.if-kind-ne-INPUT.false in
    let l = owner-inside _ p.0 a.i p.1 k in
    rw c.owned-2.ensures
    (pin_bars a.t.now target home a.runs.now stock n a.i _ _ k c.owner.ensures.0 (omega (arith, c.lower.ensures.0, c.if-lower-eq0.false))
    (sym (marks_empty (at_target m a.i p.1)) ∙ eq-eqb _ 0 c.if-by_target-i-ne0.false)
    (at_both m _ (omega (arith, c.owner.ensures.0))))
