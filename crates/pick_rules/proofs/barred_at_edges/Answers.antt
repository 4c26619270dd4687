-- `pick_rules::barred_at_edges` meets its contract: the word has what is barred at the edges below e. Assumes nothing.
use mathlib.Core.Path.{◌≡◌, refl}
use native.Mathlib.Omega.{arith}
use Rattle.pick_rules.specs.Rules.{edge_bar}
use Rattle.pick_rules.proofs.Masks.{bars_none, bars_more, bars_all}
use Rattle.pick_rules.proofs.barred_at_edges.Goals as goal

pub loop-e-init : goal.loop-e-init
loop-e-init c = λ edge target home n m. bars_none n (λ x. refl)

pub barred_at_edge-w-requires : goal.barred_at_edge-w-requires
barred_at_edge-w-requires c = let p = c.requires in (p.0, c.loop-e-test.true, p.1, p.2, p.3)

pub loop-e-preserved : goal.loop-e-preserved
loop-e-preserved c =
    let l = c.loop-e in
    λ edge target home n m. bars_more (edge_bar c.args.t.now edge target home n) l.e (l.invariant edge target home n m) (c.barred_at_edge-w.ensures edge target home n m)

pub returns : goal.returns
returns c = λ edge target home n m.
    let l = c.loop-e in
    let a = c.args in
    bars_all (edge_bar a.t.now edge target home n) (let e : l.e ≡ a.table.edges = omega arith in e) (l.invariant edge target home n m)
