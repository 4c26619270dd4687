-- `offers_join::leaf` meets its contract: no room, too many paths, or the joined offer is pushed. Assumes nothing.
use mathlib.Core.Path.{refl}
use native.Mathlib.Omega.{arith}
use borrow.Author.Rules.{rules}
use Rattle.paper.specs.Offers.{over}
use Rattle.offers.specs.Rows.{rows_in}
use Rattle.offers_join.specs.Joins.{together}
use Rattle.offers_join.proofs.Joins.{leaf_ready, leaf_long}
use Rattle.offers.proofs.Sets.{len_snoc}
use Rattle.offers.proofs.Segments.{not-fine}
use Rattle.offers_join.proofs.leaf.Goals as goal

pub returns-then-count-ge-MOST_OFFERS : goal.returns-then-count-ge-MOST_OFFERS
returns-then-count-ge-MOST_OFFERS c = (
  search rules,
  λ t ts ps b p some fr y. not-fine _ (omega (arith, len_snoc ts (over (together ps) c.args.onto.edge), b.count-is, c.if-count-ge-MOST_OFFERS.true)),
)

pub returns-then-p-gt-MOST_PATHS : goal.returns-then-p-gt-MOST_PATHS
returns-then-p-gt-MOST_PATHS c = (
  search rules,
  λ t ts ps b p some fr y.
      let a = c.args in
      let w = c.taken-w in
      let g = w.ensures.1 t ts ps b p in
      leaf_long t (rows_in w.new.rows a.count) ts ps w.result a.onto g.0 g.1 some y c.if-p-gt-MOST_PATHS.true,
)

pub returns : goal.returns
returns c = (
  search rules,
  λ t ts ps b p some fr y.
      let a = c.args in
      let w = c.taken-w in
      let g = w.ensures.1 t ts ps b p in
      c.grow.ensures t ts _ g.0
      (leaf_ready t (rows_in w.new.rows a.count) ts ps w.result a.onto g.0 g.1 some y fr w.result.paths refl c.if-p-gt-MOST_PATHS.false (omega (arith, c.well_formed)) (omega (arith, c.well_formed))),
)
