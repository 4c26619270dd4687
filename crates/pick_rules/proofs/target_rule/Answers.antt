-- `pick_rules::target_rule` meets its contract, kind by kind, if end k is the first at its target. Assumes nothing.
use mathlib.Core.Bool.{◌||◌}
use mathlib.Core.Path.{sym, ap, ap₂, ◌∙◌}
use Prim.Native.Nat.{ℕ, ◌-◌, ◌≤◌, ◌<◌}
use native.Mathlib.Omega.{arith}
use Rattle.paper.specs.Lists.{at}
use Rattle.paper.specs.Table.{nodes, is_buffer, is_outgoing}
use Rattle.table.proofs.Reading.{read-spans}
use Rattle.pick_rules.specs.Rules.{seats_kept}
use Rattle.choice_masks.proofs.Masking.{at_target, at_both}
use Rattle.pick_rules.proofs.Masks.{leads-word}
use Rattle.pick_rules.proofs.Kept.{row_first, row_past, row_later, pin_says, store_says, no_store}
use Rattle.pick_rules.proofs.Allowed.{owner-inside}
use Rattle.pick_rules.proofs.target_rule.Goals as goal

pub returns-then-table-i : goal.returns-then-table-i
returns-then-table-i c =
    let a = c.args in
    let s = read-spans _ c.requires.0 in
    let l : nodes a.t.now ≤ at a.target.now a.k = omega (arith, c.wide-i.ensures.0, s.nodes-read, c.if-table-i.true) in
    λ byEdge edge home runs n kn m x.
    c.no_rule.ensures n x ∙ sym (row_past a.target.now (nodes a.t.now) (λ i. seats_kept a.t.now a.target.now home runs a.stock.now n i x) a.k l)

pub returns-then-not-leads : goal.returns-then-not-leads
returns-then-not-leads c =
    let a = c.args in
    let q = c.wide-i.ensures.0 in
    let l : c.wide-i.result < a.table.nodes = omega (arith, c.if-table-i.false) in
    λ byEdge edge home runs n kn m x.
    c.no_rule-then-not-leads.ensures n x
    ∙ sym
    (row_later a.target.now (nodes a.t.now) (λ i. seats_kept a.t.now a.target.now home runs a.stock.now n i x) a.k
    (sym (leads-word a.target.now a.k kn q (at_target m _ l)) ∙ sym c.leads.ensures ∙ c.if-not-leads.true))

pub kind-kind-requires : goal.kind-kind-requires
kind-kind-requires c = (read-spans _ c.requires.0, omega (arith, c.if-table-i.false))

pub owner-requires : goal.owner-requires
owner-requires c = (read-spans _ c.requires.0, omega (arith, c.if-table-i.false))

pub owned-requires : goal.owned-requires
owned-requires c =
    let p = c.requires in
    let l = owner-inside _ p.0 c.wide-i.result (omega (arith, c.if-table-i.false)) (sym c.kind-kind.ensures.0 ∙ c.if-kind-eq-INPUT.true) in
    (omega (arith, c.owner.ensures.0, p.3), omega (arith, c.owner.ensures.0, p.4))

pub lower-requires : goal.lower-requires
lower-requires c = (read-spans _ c.requires.0, omega (arith, c.if-table-i.false))

pub upper-requires : goal.upper-requires
upper-requires c = (read-spans _ c.requires.0, omega (arith, c.if-table-i.false))

pub returns-then-kind-eq-INPUT : goal.returns-then-kind-eq-INPUT
returns-then-kind-eq-INPUT c =
    let a = c.args in
    let p = c.requires in
    let s = read-spans _ p.0 in
    let q = c.wide-i.ensures.0 in
    let l : c.wide-i.result < a.table.nodes = omega (arith, c.if-table-i.false) in
    let k = sym c.kind-kind.ensures.0 ∙ c.if-kind-eq-INPUT.true in
    let of = c.owner.ensures.0 in
    let o = owner-inside _ p.0 c.wide-i.result l k in
    λ byEdge edge home runs n kn m x.
    pin_says a.t.now a.target.now home runs a.stock.now n _ x _ _ _ _ _ k of c.lower.ensures.0 c.upper.ensures.0
    (rw c.owned.ensures (at_both m _ (omega (arith, of)))) (at_target m _ l)
    ∙ sym
    (row_first a.target.now (nodes a.t.now) (λ i. seats_kept a.t.now a.target.now home runs a.stock.now n i x) a.k _ (sym q) (omega (arith, s.nodes-read, l))
    (sym (leads-word a.target.now a.k kn q (at_target m _ l)) ∙ sym c.leads.ensures ∙ c.if-not-leads.false))

pub returns-then-not-is_store : goal.returns-then-not-is_store
returns-then-not-is_store c =
    let a = c.args in
    let s = read-spans _ c.requires.0 in
    let q = c.wide-i.ensures.0 in
    let l : c.wide-i.result < a.table.nodes = omega (arith, c.if-table-i.false) in
    let k = c.kind-kind.ensures.0 in
    let no = ap (λ (z : ℕ). is_buffer z || is_outgoing z) (sym k) ∙ sym c.is_store.ensures ∙ c.if-not-is_store.true in
    λ byEdge edge home runs n kn m x.
    c.no_rule-then-not-is_store.ensures n x
    ∙ sym
    (row_first a.target.now (nodes a.t.now) (λ i. seats_kept a.t.now a.target.now home runs a.stock.now n i x) a.k _ (sym q) (omega (arith, s.nodes-read, l))
    (sym (leads-word a.target.now a.k kn q (at_target m _ l)) ∙ sym c.leads.ensures ∙ c.if-not-leads.false)
    ∙ no_store a.t.now a.target.now home runs a.stock.now n _ x (λ e. c.if-kind-eq-INPUT.false (k ∙ e)) no)

pub upper-requires-2 : goal.upper-requires-2
upper-requires-2 c = (read-spans _ c.requires.0, omega (arith, c.if-table-i.false))

pub returns : goal.returns
returns c =
    let a = c.args in
    let s = read-spans _ c.requires.0 in
    let q = c.wide-i.ensures.0 in
    let l : c.wide-i.result < a.table.nodes = omega (arith, c.if-table-i.false) in
    let k = c.kind-kind.ensures.0 in
    let yes = ap (λ (z : ℕ). is_buffer z || is_outgoing z) (sym k) ∙ sym c.is_store.ensures ∙ c.if-not-is_store.false in
    λ byEdge edge home runs n kn m x.
    store_says a.t.now a.target.now home runs a.stock.now n _ x _ _ (λ e. c.if-kind-eq-INPUT.false (k ∙ e)) yes
    (c.room.ensures ∙ ap₂ (λ (u v : ℕ). u - v) c.upper-2.ensures.0 c.wide.ensures.0) (at_target m _ l)
    ∙ sym
    (row_first a.target.now (nodes a.t.now) (λ i. seats_kept a.t.now a.target.now home runs a.stock.now n i x) a.k _ (sym q) (omega (arith, s.nodes-read, l))
    (sym (leads-word a.target.now a.k kn q (at_target m _ l)) ∙ sym c.leads.ensures ∙ c.if-not-leads.false))
