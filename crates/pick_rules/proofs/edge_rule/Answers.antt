-- `pick_rules::edge_rule` meets its contract: the rule says that the edge of end k has its one end, if it leads to an action and k is its first. Assumes nothing.
use mathlib.Core.Path.{sym, ◌∙◌}
use Prim.Native.Nat.{◌≤◌, ◌<◌}
use native.Mathlib.Omega.{arith}
use Rattle.paper.specs.Lists.{at}
use Rattle.paper.specs.Table.{edges}
use Rattle.table.proofs.Reading.{read-spans, target-node}
use Rattle.pick_rules.specs.Rules.{edge_kept}
use Rattle.choice_masks.proofs.Masking.{at_edge, at_both}
use Rattle.pick_rules.proofs.Masks.{leads-word}
use Rattle.pick_rules.proofs.Kept.{row_first, row_past, row_later, edge-says, edge_other}
use Rattle.pick_rules.proofs.edge_rule.Goals as goal

pub returns-then-table-e : goal.returns-then-table-e
returns-then-table-e c =
    let a = c.args in
    let s = read-spans _ c.requires.0 in
    let l : edges a.t.now ≤ at a.edge.now a.k = omega (arith, c.wide-e.ensures.0, s.edges-read, c.if-table-e.true) in
    λ target home n kn m x. c.no_rule.ensures n x ∙ sym (row_past a.edge.now (edges a.t.now) (λ e. edge_kept a.t.now a.edge.now target home n e x) a.k l)

pub returns-then-not-leads : goal.returns-then-not-leads
returns-then-not-leads c =
    let a = c.args in
    let q = c.wide-e.ensures.0 in
    let l : c.wide-e.result < a.table.edges = omega (arith, c.if-table-e.false) in
    λ target home n kn m x.
    c.no_rule-then-not-leads.ensures n x
    ∙ sym (row_later a.edge.now (edges a.t.now) (λ e. edge_kept a.t.now a.edge.now target home n e x) a.k
    (sym (leads-word a.edge.now a.k kn q (at_edge m _ l)) ∙ sym c.leads.ensures ∙ c.if-not-leads.true))

pub target-i-requires : goal.target-i-requires
target-i-requires c = (read-spans _ c.requires.0, omega (arith, c.if-table-e.false))

pub kind-requires : goal.kind-requires
kind-requires c =
    let p = c.requires in
    let f = target-node _ p.0 c.wide-e.result (omega (arith, c.if-table-e.false)) in
    (read-spans _ p.0, omega (arith, c.target-i.ensures.0))

pub returns-then-kind-ne-ACTION : goal.returns-then-kind-ne-ACTION
returns-then-kind-ne-ACTION c =
    let a = c.args in
    let s = read-spans _ c.requires.0 in
    let q = c.wide-e.ensures.0 in
    let l : c.wide-e.result < a.table.edges = omega (arith, c.if-table-e.false) in
    λ target home n kn m x.
    c.no_rule-then-kind-ne-ACTION.ensures n x
    ∙ sym
    (row_first a.edge.now (edges a.t.now) (λ e. edge_kept a.t.now a.edge.now target home n e x) a.k _ (sym q) (omega (arith, s.edges-read, l))
    (sym (leads-word a.edge.now a.k kn q (at_edge m _ l)) ∙ sym c.leads.ensures ∙ c.if-not-leads.false)
    ∙ edge_other a.t.now a.edge.now target home n _ x _ c.target-i.ensures.0 (λ e. c.if-kind-ne-ACTION.true (c.kind.ensures.0 ∙ e)))

pub owned-requires : goal.owned-requires
owned-requires c =
    let p = c.requires in
    let f = target-node _ p.0 c.wide-e.result (omega (arith, c.if-table-e.false)) in
    let e = c.target-i.ensures.0 in
    (omega (arith, e, p.4), omega (arith, e, p.5))

pub returns : goal.returns
returns c =
    let a = c.args in
    let p = c.requires in
    let s = read-spans _ p.0 in
    let q = c.wide-e.ensures.0 in
    let to = c.target-i.ensures.0 in
    let l : c.wide-e.result < a.table.edges = omega (arith, c.if-table-e.false) in
    let f = target-node _ p.0 c.wide-e.result l in
    λ target home n kn m x.
    edge-says a.t.now a.edge.now target home n _ x _ _ _ to (sym c.kind.ensures.0 ∙ c.if-kind-ne-ACTION.false)
    (rw c.owned.ensures (at_both m _ (omega (arith, to)))) (at_edge m _ l)
    ∙ sym
    (row_first a.edge.now (edges a.t.now) (λ e. edge_kept a.t.now a.edge.now target home n e x) a.k _ (sym q) (omega (arith, s.edges-read, l))
    (sym (leads-word a.edge.now a.k kn q (at_edge m _ l)) ∙ sym c.leads.ensures ∙ c.if-not-leads.false))
