-- `ends::collect` meets its contract: the loop has found the rows of the edges below e, with their keys. Assumes nothing.
use mathlib.Core.Path.{◌≡◌, refl, sym, ap, ◌∙◌}
use Prim.Native.Nat.{◌<◌}
use native.Mathlib.Omega.{arith}
use borrow.Author.Rules.{rules}
use Rattle.paper.specs.Table.{edges, kind, is_control_node}
use Rattle.table.proofs.Reading.{read-spans, edges_most, target-node}
use Rattle.ends.specs.Slots.{end_rows}
use Rattle.ends.proofs.Found.{rows_none, rows_skip, rows_more, rows-many, keyed-more, rising_none, rising_skip, rising-more, key-is}
use Rattle.ends.proofs.collect.Goals as goal
use Rattle.ends.proofs.collect.Goals.{then-not-is_control_node+else-n-b-gt-MOST_ENDS, else-not-is_control_node}

pub loop-e-init : goal.loop-e-init
loop-e-init c =
    let a = c.args in
    (search rules, (sym (rows_none a.t.now a.from.now a.to.now), (λ s l. absurd (omega arith), rising_none a.keys.now)))

pub target-node-requires : goal.target-node-requires
target-node-requires c = let p = c.requires.0 in (read-spans c.args.t.now p, omega arith)

pub kind-requires : goal.kind-requires
kind-requires c =
    let t = c.args.t.now in
    let p = c.requires.0 in
    (read-spans t p, omega (arith, c.target-node.ensures.0, target-node t p c.loop-e.e (omega arith)))

pub bounds-from-e : goal.bounds-from-e
bounds-from-e c =
    omega (arith, edges_most c.args.t.now c.requires.0)

pub bounds-to-e : goal.bounds-to-e
bounds-to-e c =
    omega (arith, edges_most c.args.t.now c.requires.0)

pub overflow_sub-b : goal.overflow_sub-b
overflow_sub-b c = omega (arith, c.wide-b.ensures.0, c.wide-a.ensures.0, (c.requires.1.0.0 c.loop-e.e).0)

pub returns-then-n-b-gt-MOST_ENDS : goal.returns-then-n-b-gt-MOST_ENDS
returns-then-n-b-gt-MOST_ENDS c =
    let a = c.args in
    let p = c.requires in
    let l = c.loop-e in
    let s = read-spans a.t.now p.0 in
    let is = ap is_control_node (c.kind.ensures.0 ∙ ap (kind a.t.now) c.target-node.ensures.0) in
    let ends_here = sym is ∙ sym c.is_control_node.ensures ∙ c.if-not-is_control_node.true in (
      refl,
      rows-many a.t.now a.from.now a.to.now l.found l.n l.e l.invariant.1.0 ends_here
          (edges a.t.now) (omega arith) (omega (arith, c.wide-b.ensures.0, c.wide-a.ensures.0)),
    )

pub overflow_mul-node : goal.overflow_mul-node
overflow_mul-node c =
    let parts-small : (c.target-node.result < 256) × (c.loop-e.e < 256) =
    let few = edges_most c.args.t.now c.requires.0 in
    (omega (arith, c.target-node.ensures.1), omega arith) in
    omega (arith, parts-small)

pub overflow_add-node : goal.overflow_add-node
overflow_add-node c =
    let parts-small : (c.target-node.result < 256) × (c.loop-e.e < 256) =
    let few = edges_most c.args.t.now c.requires.0 in
    (omega (arith, c.target-node.ensures.1), omega arith) in
    omega (arith, parts-small)

pub overflow_cast-node : goal.overflow_cast-node
overflow_cast-node c =
    let parts-small : (c.target-node.result < 256) × (c.loop-e.e < 256) =
    let few = edges_most c.args.t.now c.requires.0 in
    (omega (arith, c.target-node.ensures.1), omega arith) in
    omega (arith, parts-small)

pub add_rows-requires : goal.add_rows-requires
add_rows-requires c =
    let q = c.requires.1.0.0 c.loop-e.e in
    let x = c.wide-a.ensures.0 in
    let y = c.wide-b.ensures.0 in
    ((omega arith, omega arith), (omega (arith, c.if-n-b-gt-MOST_ENDS.false, c.loop-e.auto.found), omega (arith, c.if-n-b-gt-MOST_ENDS.false, c.loop-e.auto.keys)))

pub overflow_sub-n : goal.overflow_sub-n
overflow_sub-n c =
    omega (arith, c.wide-b.ensures.0, c.wide-a.ensures.0, (c.requires.1.0.0 c.loop-e.e).0)

pub overflow_add-n-then-not-is_control_node : goal.overflow_add-n-then-not-is_control_node
overflow_add-n-then-not-is_control_node c = omega (arith, c.requires)

pub loop-e-preserved : goal.loop-e-preserved
loop-e-preserved c =
    let a = c.args in
    let p = c.requires in
    let l = c.loop-e in
    let v = c.target-node in
    let is = ap is_control_node (c.kind.ensures.0 ∙ ap (kind a.t.now) v.ensures.0) in
    let s = c.is_control_node.ensures in
    let few = edges_most a.t.now p.0 in
    let there = read-spans a.t.now p.0 in
    let q = p.1.0.0 l.e in
    let key = key-is a.t.now v.result l.e v.ensures.0 in
    let skip = rows_skip a.t.now a.from.now a.to.now l.found l.n l.e l.invariant.1.0 in
    elim c.if-not-is_control_node.branch [
      | then-not-is_control_node+else-n-b-gt-MOST_ENDS w ↦ (
        rw w.n-is (omega (arith, w.if-n-b-gt-MOST_ENDS.false)),
        (
          rw (w.found-is, w.n-is) (rows_more a.t.now a.from.now a.to.now l.found l.n l.e l.invariant.1.0
              (sym is ∙ sym s ∙ w.if-not-is_control_node.true) w.wide-a.ensures.0 w.wide-b.ensures.0 w.add_rows.ensures),
          (
            rw (w.found-is, w.keys-is, w.n-is) (keyed-more w.add_rows.ensures l.e (omega arith) (omega arith) w.wide-a.ensures.0
                (omega (arith, w.wide-a.ensures.0, w.wide-b.ensures.0)) key l.invariant.1.1.0),
            rw (w.keys-is, w.n-is) (rising-more w.add_rows.ensures (omega arith) l.invariant.1.1.1),
          ),
        ),
      )
      | else-not-is_control_node w ↦ (
        rw w.n-is (omega arith),
        (
          rw (w.found-is, w.n-is) (skip (sym is ∙ sym s ∙ w.if-not-is_control_node.false)),
          (rw (w.found-is, w.keys-is, w.n-is) l.invariant.1.1.0, rw (w.keys-is, w.n-is) (rising_skip l.invariant.1.1.1)),
        ),
      )
    ]

pub returns : goal.returns
returns c =
    let a = c.args in
    let l = c.loop-e in
    let s = read-spans a.t.now c.requires.0 in
    let e : l.e ≡ edges a.t.now = omega arith in
    record {
      few = l.invariant.0;
      good = l.invariant.1.0 ∙ ap (end_rows a.t.now a.from.now a.to.now) e;
      keyed = l.invariant.1.1.0;
      grouped = l.invariant.1.1.1.grouped;
    }
