-- `pick_rules::add_forks` meets its contract: the rows say what they must of the offers from z on. Assumes nothing.
use mathlib.Core.Path.{◌≡◌, sym}
use native.Mathlib.Nat.{le_trans, le_of_eq}
use native.Mathlib.Omega.{arith}
use Rattle.pick_rules.proofs.Rows.{from-none, from_more, from_all}
use Rattle.pick_rules.proofs.add_forks.Goals as goal

pub loop-z-init : goal.loop-z-init
loop-z-init c = from-none _ _

pub fork_rule-new-requires : goal.fork_rule-new-requires
fork_rule-new-requires c =
    let p = c.requires in
    let o = p.3 in
    let e = p.4 in (
      p.2,
      omega (arith, o.few, o.nodes-full),
      omega (arith, o.few, o.parents-full),
      omega (arith, e.few, e.makers-full),
      o.few,
      omega (arith, c.loop-z-test.true),
      e.few,
    )

pub add-r-requires : goal.add-r-requires
add-r-requires c =
    let p = c.requires in
    let l = c.loop-z in
    (omega (arith, p.0, l.invariant.few, c.loop-z-test.true), le_trans p.1 (le_of_eq (sym l.auto.net)))

pub loop-z-preserved : goal.loop-z-preserved
loop-z-preserved c =
    let l = c.loop-z in
    from_more _ l.z _ (omega arith) (omega arith) l.invariant
    c.fork_rule-new.ensures (c.add-r.ensures c.args.ends.count (omega (arith, c.requires.4.few)))

pub returns : goal.returns
returns c = let l = c.loop-z in from_all _ (let e : l.z ≡ 0 = omega arith in e) l.invariant
