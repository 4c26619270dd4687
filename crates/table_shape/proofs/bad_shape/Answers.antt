-- `bad_shape` finds the lowest node that row 4 refuses. Assumes nothing.
use mathlib.Core.Path.{◌≡◌, ◌∙◌, sym, subst}
use Prim.Native.Nat.{ℕ, ◌<◌, ◌*◌}
use native.Mathlib.Omega.{arith}
use borrow.Author.Count.{below_more}
use borrow.Author.Rules.{rules}
use Rattle.paper.specs.Limits.{limits}
use Rattle.paper.specs.Table.{nodes, shape_fine}
use Rattle.table_shape.specs.Shape.{Counts}
use Rattle.table.proofs.Reading.{blank, fails_at, fails_nowhere}
use Rattle.table_ranks.proofs.Chains.{fine-framed, rank_tells}
use Rattle.table_shape.proofs.bad_shape.Goals as goal
use Rattle.table_shape.proofs.bad_shape.Goals.{After-shape_fine}

pub tally-requires : goal.tally-requires
tally-requires c = (search rules, c.requires.2, search rules, blank (4 * limits.most_nodes))

pub ranks-rk-requires : goal.ranks-rk-requires
ranks-rk-requires c = let p = c.requires in fine-framed p.0 p.2

-- what the arrays say of node i is what row 4 asks
module _ (c : After-shape_fine) where
  here : c.loop-i.i < nodes c.args.s.now
  here = omega (arith, c.requires.0.nodes-read)

  judged : c.shape_fine.result ≡ shape_fine c.args.s.now limits c.loop-i.i
  judged =
      let t = c.args.s.now in
      let i = c.loop-i.i in
      let d = subst (Counts t i) (sym c.degrees_at.ensures) (c.tally.ensures i here) in
      c.shape_fine.ensures t i c.kind.ensures.0 d ((c.mark_fed.ensures (blank limits.most_nodes)).tell i here) (rank_tells (c.ranks-rk.ensures.1 i here))

pub returns-then-not-shape_fine : goal.returns-then-not-shape_fine
returns-then-not-shape_fine c =
    let j = (goal.at.returns-then-not-shape_fine c).After-shape_fine in
    let t = c.args.s.now in
    sym (fails_at (shape_fine t limits) (nodes t) c.loop-i.i c.loop-i.invariant (sym (judged j) ∙ c.if-not-shape_fine.true) (here j))

pub loop-i-preserved : goal.loop-i-preserved
loop-i-preserved c =
    let j = (goal.at.loop-i-preserved c).After-shape_fine in
    below_more _ _ c.loop-i.invariant (sym (judged j) ∙ c.if-not-shape_fine.false)

pub returns : goal.returns
returns c =
    let t = c.args.s.now in
    sym (fails_nowhere (shape_fine t limits) (nodes t) (λ k h. c.loop-i.invariant k (omega (arith, c.requires.0.nodes-read))))
