-- `pick_rules::add_targets` meets its contract: the rows say what they must of the targets of the ends below k. Assumes nothing.
use mathlib.Core.Path.{◌≡◌, sym}
use native.Mathlib.Nat.{le_trans, le_of_eq}
use native.Mathlib.Omega.{arith}
use borrow.Author.Rules.{rules}
use Rattle.pick_rules.specs.Rules.{target_row}
use Rattle.pick_rules.proofs.Rows.{upto_all, upto_none, upto_more}
use Rattle.pick_rules.proofs.Rows.{upto_all, upto_none, upto_more}
use Rattle.pick_rules.proofs.add_targets.Goals as goal

pub loop-k-init : goal.loop-k-init
loop-k-init c = let a = c.args in (search rules, λ byEdge edge home runs m. upto_none (target_row a.t.now a.target.now home runs a.stock.now a.n))

pub target_rule-new-requires : goal.target_rule-new-requires
target_rule-new-requires c =
    let p = c.requires in
    let lt = c.loop-k-test.true in
    (p.2, omega (arith, p.3, lt), omega (arith, p.4, lt), p.5, p.6, p.7)

pub add-r-requires : goal.add-r-requires
add-r-requires c =
    let p = c.requires in
    let l = c.loop-k in
    (omega (arith, p.0, l.invariant.0, c.loop-k-test.true), le_trans p.1 (le_of_eq (sym l.auto.net)))

pub loop-k-preserved : goal.loop-k-preserved
loop-k-preserved c =
    let l = c.loop-k in
    let a = c.args in
    let f = c.add-r.ensures in
    let lt = c.loop-k-test.true in (
      omega (arith, (f 0 (omega arith)).few, l.invariant.0),
      λ byEdge edge home runs m. upto_more (target_row a.t.now a.target.now home runs a.stock.now a.n) l.k (l.invariant.1 byEdge edge home runs m)
          (c.target_rule-new.ensures byEdge edge home runs a.n lt m) (f a.n (omega (arith, c.requires.4))),
    )

pub returns : goal.returns
returns c =
    let l = c.loop-k in
    let a = c.args in
    let e : l.k ≡ a.n = omega arith in
    (omega (arith, l.invariant.0, e), λ byEdge edge home runs m. upto_all (target_row a.t.now a.target.now home runs a.stock.now a.n) e (l.invariant.1 byEdge edge home runs m))
