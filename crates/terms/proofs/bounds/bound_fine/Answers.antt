-- `bound_fine`: a field of an entry a return. Assumes nothing.
use mathlib.Core.Path.{sym, ap, ap₂, ◌∙◌}
use native.Mathlib.Omega.{arith}
use lib.Dec.{ltb}
use Rattle.paper.specs.Table.{edge_kind}
use Rattle.terms.proofs.BoundLaws.{edge-over, edge-control, low-above, first_entry, later_entry, edge-read, edge-before, low_read, high_read}
use Rattle.terms.proofs.bounds.bound_fine.Goals as goal

pub returns-then-table-e : goal.returns-then-table-e
returns-then-table-e c =
    let a = c.args in
    let n = c.requires.0.edges-read in
    let e = edge-read a.x.now a.k _ c.wide-e.ensures.0 in
    sym (edge-over a.t.now a.x.now a.k (omega (arith, c.if-table-e.true, e, n)))

pub returns-then-edge_kind-ne1 : goal.returns-then-edge_kind-ne1
returns-then-edge_kind-ne1 c =
    let a = c.args in
    let n = c.requires.0.edges-read in
    let e = edge-read a.x.now a.k _ c.wide-e.ensures.0 in
    sym (edge-control a.t.now a.x.now a.k (omega (arith, c.if-table-e.false, e, n)) (λ o. c.if-edge_kind-ne1.true (c.edge_kind.ensures.0 ∙ ap (edge_kind a.t.now) e ∙ o)))

pub returns-then-read32 : goal.returns-then-read32
returns-then-read32 c =
    let a = c.args in
    let n = c.requires.0.edges-read in
    let e = edge-read a.x.now a.k _ c.wide-e.ensures.0 in
    let h = high_read a.x.now a.k _ c.read32.ensures in
    let l = low_read a.x.now a.k _ c.read32-2.ensures in
    sym (low-above a.t.now a.x.now a.k (omega (arith, c.if-table-e.false, e, n)) (sym (c.edge_kind.ensures.0 ∙ ap (edge_kind a.t.now) e) ∙ c.if-edge_kind-ne1.false) (omega (arith, c.if-read32.true, h, l)))

pub returns-then-k-eq0 : goal.returns-then-k-eq0
returns-then-k-eq0 c =
    let a = c.args in
    let n = c.requires.0.edges-read in
    let e = edge-read a.x.now a.k _ c.wide-e.ensures.0 in
    let h = high_read a.x.now a.k _ c.read32.ensures in
    let l = low_read a.x.now a.k _ c.read32-2.ensures in
    sym (first_entry a.t.now a.x.now a.k (omega (arith, c.if-table-e.false, e, n)) (sym (c.edge_kind.ensures.0 ∙ ap (edge_kind a.t.now) e) ∙ c.if-edge_kind-ne1.false) (omega (arith, c.if-read32.false, h, l)) c.if-k-eq0.true)

pub returns : goal.returns
returns c =
    let a = c.args in
    let n = c.requires.0.edges-read in
    let e = edge-read a.x.now a.k _ c.wide-e.ensures.0 in
    let h = high_read a.x.now a.k _ c.read32.ensures in
    let l = low_read a.x.now a.k _ c.read32-2.ensures in
    let d = edge-before a.x.now a.k _ c.if-k-eq0.false c.wide.ensures.0 in
    ap₂ ltb d e ∙ sym (later_entry a.t.now a.x.now a.k (omega (arith, c.if-table-e.false, e, n)) (sym (c.edge_kind.ensures.0 ∙ ap (edge_kind a.t.now) e) ∙ c.if-edge_kind-ne1.false) (omega (arith, c.if-read32.false, h, l)) c.if-k-eq0.false)
