-- `offers_over::extend_one` meets its contract: the offer is barred, there is no room, or it is extended. Assumes nothing.
use mathlib.Core.Path.{sym, ◌∙◌, subst}
use Prim.Native.Nat.{◌+◌}
use native.Mathlib.Omega.{arith}
use borrow.Author.Rules.{rules}
use Rattle.offers.specs.Rows.{rows_in, Holds}
use Rattle.offers_over.proofs.Parts.{one_barred, one-is, one-fresh, one-full}
use Rattle.offers_over.proofs.extend_one.Goals as goal

pub returns-then-not-admits : goal.returns-then-not-admits
returns-then-not-admits c = (
  search rules,
  λ t ts x y.
      let g = sym c.admits.ensures ∙ c.if-not-admits.true in
      subst (λ z. Holds t (rows_in c.args.rows.now c.args.count) z) (one_barred y g) y.holds_ts,
)

pub returns-then-count-ge-MOST_OFFERS : goal.returns-then-count-ge-MOST_OFFERS
returns-then-count-ge-MOST_OFFERS c = (
  search rules,
  λ t ts x y.
      let g = sym c.admits.ensures ∙ c.if-not-admits.false in
      one-full y g (omega (arith, y.holds_ts.count-is, c.if-count-ge-MOST_OFFERS.true)),
)

pub returns : goal.returns
returns c = (
  search rules,
  λ t ts x y.
      let g = sym c.admits.ensures ∙ c.if-not-admits.false in
      subst (λ z. Holds t (rows_in c.extend.new.rows (c.args.count + 1)) z) (one-is y g) (c.extend.ensures t ts y.holds_ts (one-fresh y g) y.leaves),
)
