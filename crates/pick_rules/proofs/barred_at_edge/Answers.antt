-- `pick_rules::barred_at_edge` meets its contract: an edge that has an end, or leads to no action, bars nothing. Assumes nothing.
use mathlib.Core.Path.{sym, ◌∙◌}
use native.Mathlib.Omega.{arith}
use borrow.Author.Tests.{eq-eqb, ne_eqb}
use Rattle.table.proofs.Reading.{read-spans, target-node}
use Rattle.choice_masks.proofs.Masking.{at_edge, at_both}
use Rattle.pick_rules.proofs.Masks.{marks_empty, bars_none}
use Rattle.pick_rules.proofs.Kept.{edge_bars, edge_manned, edge_elsewhere}
use Rattle.pick_rules.proofs.barred_at_edge.Goals as goal

pub returns-then-by_edge-e-ne0 : goal.returns-then-by_edge-e-ne0
returns-then-by_edge-e-ne0 c = λ edge target home n m.
    let a = c.args in
    bars_none n (edge_manned a.t.now edge target home n a.e (sym (marks_empty (at_edge m a.e c.requires.1)) ∙ ne_eqb _ 0 c.if-by_edge-e-ne0.true))

pub target-i-requires : goal.target-i-requires
target-i-requires c = let p = c.requires in (read-spans _ p.0, p.1)

pub kind-requires : goal.kind-requires
kind-requires c = let p = c.requires in let f = target-node _ p.0 c.args.e p.1 in (read-spans _ p.0, omega (arith, c.target-i.ensures.0))

pub returns-then-kind-ne-ACTION : goal.returns-then-kind-ne-ACTION
returns-then-kind-ne-ACTION c = λ edge target home n m.
    let a = c.args in
    bars_none n (edge_elsewhere a.t.now edge target home n a.e _ c.target-i.ensures.0 (λ e. c.if-kind-ne-ACTION.true (c.kind.ensures.0 ∙ e)))

pub owned-requires : goal.owned-requires
owned-requires c =
    let p = c.requires in
    let f = target-node _ p.0 c.args.e p.1 in
    (omega (arith, c.target-i.ensures.0, p.3), omega (arith, c.target-i.ensures.0, p.4))

pub returns : goal.returns
returns c = λ edge target home n m.
    let a = c.args in
    let p = c.requires in
    let f = target-node _ p.0 a.e p.1 in
    let v = sym (marks_empty (at_edge m a.e p.1)) ∙ eq-eqb _ 0 c.if-by_edge-e-ne0.false in
    rw c.owned.ensures
    (edge_bars a.t.now edge target home n a.e _ _ c.target-i.ensures.0 (sym c.kind.ensures.0 ∙ c.if-kind-ne-ACTION.false) v
    (at_both m _ (omega (arith, c.target-i.ensures.0))))
