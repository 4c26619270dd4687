-- `pick_rules::add_destinations` meets its contract: the masks are filled, a word for each edge and node, and the rows of rule 3 come one after the other. Assumes nothing.
use mathlib.Core.Path.{sym}
use native.Mathlib.Nat.{le_trans, le_of_eq}
use native.Mathlib.Omega.{arith}
use Rattle.paper.specs.Limits.{limits}
use Rattle.table.proofs.Reading.{nodes_most, edges_most, blank}
use Rattle.choice_masks.proofs.Masking.{masks_of}
use Rattle.pick_rules.proofs.Destinations.{destinations_added}
use Rattle.pick_rules.proofs.add_destinations.Goals as goal

pub fill_masks-requires : goal.fill_masks-requires
fill_masks-requires c = let e = c.requires.3 in (blank limits.most_edges, omega (arith, e.few, e.edges-full), e.few)

pub fill_masks-requires-2 : goal.fill_masks-requires-2
fill_masks-requires-2 c = let e = c.requires.3 in (blank limits.most_nodes, omega (arith, e.few, e.targets-full), e.few)

pub fill_masks-requires-3 : goal.fill_masks-requires-3
fill_masks-requires-3 c = let e = c.requires.3 in (blank limits.most_nodes, omega (arith, e.few, e.homes-full), e.few)

pub add_edges-edges-requires : goal.add_edges-edges-requires
add_edges-edges-requires c =
    let p = c.requires in
    let e = p.3 in (
      omega (arith, p.0, e.few),
      p.1,
      p.2,
      omega (arith, e.few, e.edges-full),
      e.few,
      omega (arith, edges_most _ p.2, c.fill_masks.auto),
      omega (arith, nodes_most _ p.2, c.fill_masks-2.auto),
      omega (arith, nodes_most _ p.2, c.fill_masks-3.auto),
    )

pub slice_bounds-add_targets-end : goal.slice_bounds-add_targets-end
slice_bounds-add_targets-end c = sym c.requires.3.targets-full

pub slice_bounds-add_targets-end-4 : goal.slice_bounds-add_targets-end-4
slice_bounds-add_targets-end-4 c = sym c.requires.4

pub slice_bounds-barred-end : goal.slice_bounds-barred-end
slice_bounds-barred-end c = omega (arith, c.fill_masks.auto)

pub slice_bounds-barred-end-4 : goal.slice_bounds-barred-end-4
slice_bounds-barred-end-4 c = sym c.requires.4

pub barred-barred-requires : goal.barred-barred-requires
barred-barred-requires c =
    let p = c.requires in (
      p.2,
      omega (arith, edges_most _ p.2, c.fill_masks.auto),
      omega (arith, nodes_most _ p.2, c.fill_masks-2.auto),
      omega (arith, nodes_most _ p.2, c.fill_masks-3.auto),
      omega (arith, nodes_most _ p.2, p.4),
    )

pub add_targets-targets-requires : goal.add_targets-targets-requires
add_targets-targets-requires c =
    let p = c.requires in
    let e = p.3 in
    let f = c.add_edges-edges in (
      omega (arith, p.0, e.few, f.ensures.0),
      le_trans p.1 (le_of_eq (sym f.auto.net)),
      p.2,
      omega (arith, e.few, e.targets-full),
      e.few,
      omega (arith, nodes_most _ p.2, c.fill_masks-2.auto),
      omega (arith, nodes_most _ p.2, c.fill_masks-3.auto),
      omega (arith, nodes_most _ p.2, p.4),
    )

pub returns : goal.returns
returns c =
    let x = c.args.ends in
    let k = c.args.kept in
    let p = c.requires in
    let e = c.fill_masks in
    let f = c.fill_masks-2 in
    let g = c.fill_masks-3 in
    let m =
    masks_of {table = c.args.table} e.ensures f.ensures g.ensures (omega (arith, edges_most _ p.2, e.auto)) (omega (arith, nodes_most _ p.2, f.auto)) (omega (arith, nodes_most _ p.2, g.auto)) in
    destinations_added c.args.t.now x.edge x.target x.home k k p.3.few
    (c.add_edges-edges.ensures.1 x.target x.home m) (c.add_targets-targets.ensures.1 _ x.edge x.home k m)
    (c.barred-barred.ensures x.edge x.target x.home k x.count m) (c.add.ensures x.count (omega (arith, p.3.few)))
