-- `unfit_node`: masks are filled, a word for each edge and node, and what starts is marked. Assumes nothing.
use native.Mathlib.Omega.{arith}
use Rattle.paper.specs.Limits.{limits}
use Rattle.table.proofs.Reading.{blank}
use Rattle.choice_agree.proofs.unfit_node.Goals as goal

pub fill_masks-requires : goal.fill_masks-requires
fill_masks-requires c = let e = c.requires.1 in (blank limits.most_edges, omega (arith, e.few, e.edges-full), e.few)

pub fill_masks-requires-2 : goal.fill_masks-requires-2
fill_masks-requires-2 c = let e = c.requires.1 in
    (blank limits.most_nodes, omega (arith, e.few, e.targets-full), e.few)

pub returns : goal.returns
returns c = let e = c.args.ends in
    c.unfit_by_masks.ensures e.edge e.target e.home e.count c.fill_masks.ensures c.fill_masks-2.ensures
    (c.mark_starting.ensures (blank limits.most_nodes))
