-- `unfit_by_masks`: the marks of edges, pins and nodes, then the lowest mark. Assumes nothing.
use mathlib.Core.Path.{ap, ◌∙◌}
use mathlib.Core.Bool.{Bool, false, not, ◌||◌}
use Prim.Native.Nat.{ℕ}
use Rattle.paper.specs.Lists.{lowest}
use Rattle.paper.specs.Limits.{limits}
use Rattle.paper.specs.Table.{nodes, edges, owner as ownerOf, target as target_of}
use Rattle.words.specs.Marks.{is_marked, placed}
use Rattle.table.proofs.Reading.{blank}
use Rattle.ends_masks.specs.Seating.{fits}
use Rattle.choice_agree.specs.Agreeing.{edge_wrong, pin_wrong}
use Rattle.choice_agree.proofs.Unfit.{homes-marked, unfit_all}
use Rattle.choice_agree.proofs.unfit_by_masks.Goals as goal

pub returns : goal.returns
returns c = let a = c.args in
    let p = c.requires in
    let t = a.t.now in
    let s = is_marked a.starting.now in
    let e = placed (edge_wrong t s a.c a.by_edge.now) (target_of t) (edges t) in
    let i = placed (pin_wrong t s a.c a.by_target.now) (ownerOf t) (nodes t) in
    let one = c.mark_edges.ensures (λ i. false) (record { tell = λ i l. blank limits.most_nodes i }) in
    let two = c.mark_pins.ensures e one in
    let three = c.mark_nodes.ensures (λ j. e j || i j) two in
    λ edge target home n me mt starts.
    let q : ℕ → Bool = λ i. not (fits t edge target home a.kept a.kept n a.c i) in
    c.lowest_marked.ensures q (unfit_all edge target home a.kept a.kept n a.c p.0 p.1 p.2 me mt starts three)
    ∙ ap (lowest q) p.0.nodes-read
    ∙ homes-marked t edge target home a.kept a.kept n a.c
