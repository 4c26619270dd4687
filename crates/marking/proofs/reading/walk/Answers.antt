-- `walk` reads every field: nodes, then edges, to the end of the bytes. Assumes nothing.
use borrow.Author.Tests.{eqb-true, eqb-false}
use mathlib.Core.Bool.{false}
use lib.Dec.{eqb}
use lib.ListN.{length}
use Rattle.paper.specs.Lists.{at}
use Rattle.marking.proofs.Laws.{nodes-none, edges_none, left-none, walked, walk_by}
use Rattle.marking.proofs.reading.walk.Goals as goal

pub returns-in_default : goal.returns-in_default
returns-in_default c = let a = c.args in
    λ h. nodes-none a.t.now a.b.now h (c.in_default.ensures (eqb (at a.b.now 3) 1))

pub edges_end-requires : goal.edges_end-requires
edges_end-requires c = let h = c.requires in (h.0, (c.in-Some.ensures false).2, h.4)

pub returns-in_default-edges_end : goal.returns-in_default-edges_end
returns-in_default-edges_end c = let a = c.args in
    λ h. let z = c.in-Some.ensures (eqb (at a.b.now 3) 1) in
    edges_none a.t.now a.b.now h z.0 c.in-Some.after z.1 (c.in_default-edges_end.ensures z.0)

pub returns : goal.returns
returns c = let a = c.args in
    let b = a.b.now in
    let p = c.in-Some-edges_end.end in
    λ h. let z = c.in-Some.ensures (eqb (at b 3) 1) in
    let y = c.in-Some-edges_end.ensures z.0 in
    walk_by (eqb p (length b)) (λ e. walked a.t.now b h z.0 c.in-Some.after z.1 y.0 p y.1 (eqb-true p (length b) e) z.3 y.3)
    (λ e. left-none a.t.now b h z.0 c.in-Some.after z.1 y.0 p y.1 (eqb-false p (length b) e) y.2)
