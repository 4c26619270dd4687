-- `list_links` lists the edges between control nodes. Assumes nothing.
use mathlib.Core.Path.{◌≡◌, sym, ap, ◌∙◌}
use Prim.Native.Nat.{◌<◌}
use native.Mathlib.Omega.{arith}
use lib.ListN.{length-set}
use Rattle.paper.specs.Lists.{at}
use Rattle.paper.specs.Table.{edges}
use Rattle.table_ranks.proofs.Chains.{links_no_source, links_no_target, links_more}
use Rattle.table_ranks.proofs.list_links.Goals as goal
use Rattle.table_ranks.proofs.list_links.Goals.{then-rk-source-ne0+then-rk-target-ne0, else-rk-source-ne0, else-rk-source-ne0-via-then-rk-source-ne0+else-rk-target-ne0, else-rk-source-ne0-via-else-rk-source-ne0}

pub loop-j-preserved : goal.loop-j-preserved
loop-j-preserved c =
    let l = c.loop-j in
    let f = c.requires.0 in
    let rank = at c.args.rk.now in
    let lj : l.j < edges c.args.s.now = omega (arith, f.spans.edges-read) in
    let from = c.source.ensures.0 in
    elim c.if-rk-source-ne0.branch [
      | then-rk-source-ne0+then-rk-target-ne0 w ↦ (
        rw w.n-is (omega arith),
        rw (w.links-is, w.n-is) (
          simp length-set l.invariant.1.0,
          links_more l.j f c.requires.1 lj l.invariant.1.1 (omega arith) (λ e. w.if-rk-source-ne0.true (ap rank from ∙ e)) (λ e. w.if-rk-target-ne0.true (ap rank w.target.ensures.0 ∙ e)),
        ),
      )
      | else-rk-source-ne0 w ↦ (
        rw w.n-is (omega arith),
        rw (w.links-is, w.n-is) (
          l.invariant.1.0,
          elim w.else-rk-source-ne0.branch [
            | else-rk-source-ne0-via-then-rk-source-ne0+else-rk-target-ne0 v ↦ links_no_target l.j f c.requires.1 lj l.invariant.1.1 (ap rank (sym v.target.ensures.0) ∙ v.if-rk-target-ne0.false)
            | else-rk-source-ne0-via-else-rk-source-ne0 v ↦ links_no_source l.j f c.requires.1 lj l.invariant.1.1 (ap rank (sym from) ∙ v.if-rk-source-ne0.false)
          ],
        ),
      )
    ]
