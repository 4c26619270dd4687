-- `ends_masks::columns` meets its contract: the loop has filled the three columns below k, and their lengths stand. Assumes nothing.
use mathlib.Core.Path.{◌≡◌, sym, ap, ◌∙◌}
use Prim.Native.Nat.{◌%◌}
use native.Mathlib.Omega.{arith}
use Rattle.paper.specs.Table.{target}
use Rattle.offers.specs.Rows.{rows_in}
use Rattle.table.proofs.Reading.{read-spans, target-node}
use Rattle.ends_masks.proofs.Masks.{columns-none, columns-more}
use Rattle.ends_masks.proofs.columns.Goals as goal

pub loop-k-init : goal.loop-k-init
loop-k-init c = columns-none _ _ _

pub last_of-e-requires : goal.last_of-e-requires
last_of-e-requires c =
    let p = c.requires in
    let i = p.1.rowed.each-inside c.loop-k.k c.loop-k-test.true in
    (omega (arith, c.wide.ensures.0), p.1.cells-there)

pub target-to-requires : goal.target-to-requires
target-to-requires c =
    let l = c.requires.1.lasts c.loop-k.k c.loop-k-test.true in
    let e = ap (λ z. ((rows_in c.args.rows.now 0).entry z).last % 256) c.wide.ensures.0 in
    (read-spans _ c.requires.0, omega (arith, c.wide-in-loop-k.ensures.0, c.last_of-e.ensures))

pub home_of-requires : goal.home_of-requires
home_of-requires c =
    let l = c.requires.1.lasts c.loop-k.k c.loop-k-test.true in
    let e = ap (λ z. ((rows_in c.args.rows.now 0).entry z).last % 256) c.wide.ensures.0 in
    let f = target-node _ c.requires.0 c.wide-in-loop-k.result (omega (arith, c.wide-in-loop-k.ensures.0, c.last_of-e.ensures)) in
    (c.requires.0, omega (arith, c.target-to.ensures.0))

pub loop-k-preserved : goal.loop-k-preserved
loop-k-preserved c =
    let l = c.loop-k in
    let a = c.args in
    columns-more l.invariant (omega (arith, l.auto.edge)) (omega (arith, l.auto.target)) (omega (arith, l.auto.home))
    (c.last_of-e.ensures ∙ ap (λ z. ((rows_in a.rows.now 0).entry z).last % 256) c.wide.ensures.0)
    (c.target-to.ensures.0 ∙ ap (target a.t.now) c.wide-in-loop-k.ensures.0) c.home_of.ensures

pub returns : goal.returns
returns c =
    let l = c.loop-k in
    let e : l.k ≡ c.args.n = omega arith in
    rw (sym e) l.invariant
