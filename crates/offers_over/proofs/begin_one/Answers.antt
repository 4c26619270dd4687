-- `offers_over::begin_one` meets its contract: the offer is barred, there is no room, or a row begins a path of its own. Assumes nothing.
use mathlib.Core.Path.{sym, ◌∙◌, subst}
use Prim.Native.Nat.{◌+◌, ◌*◌}
use native.Mathlib.Omega.{arith}
use lib.ListN.{set}
use borrow.Author.Rules.{rules}
use Rattle.offers.specs.Rows.{rows_in, Holds}
use Rattle.offers_over.proofs.Outcomes.{led_blank, blank-cell}
use Rattle.offers.proofs.Rows.{led_holds}
use Rattle.offers_over.proofs.Parts.{begin_barred, begin_is, begin_full, begin_ready}
use Rattle.offers_over.proofs.begin_one.Goals as goal

pub returns-then-not-admits : goal.returns-then-not-admits
returns-then-not-admits c = (
  search rules,
  λ t ts y. subst (λ z. Holds t (rows_in c.args.rows.now c.args.count) z) (begin_barred c.args.worth y (sym c.admits.ensures ∙ c.if-not-admits.true)) y.holds_ts,
)

pub returns-then-count-ge-MOST_OFFERS : goal.returns-then-count-ge-MOST_OFFERS
returns-then-count-ge-MOST_OFFERS c = (
  search rules,
  λ t ts y.
      let g = sym c.admits.ensures ∙ c.if-not-admits.false in
      begin_full c.args.worth y g (omega (arith, y.holds_ts.count-is, c.if-count-ge-MOST_OFFERS.true)),
)

pub returns : goal.returns
returns c = (
  search rules,
  λ t ts y.
      let a = c.args in
      let m = a.rows.now in
      let m' = set m (16 * a.count + 8) 0 in
      let g = sym c.admits.ensures ∙ c.if-not-admits.false in
      let h = led_holds t m m' a.count 0 0 0 ts y.holds_ts (led_blank m a.count) in
      subst (λ z. Holds t (rows_in c.grow.new.rows (a.count + 1)) z) (begin_is a.worth y g)
      (c.grow.ensures t ts _ h
      (begin_ready a.worth y g (rows_in m' a.count) (blank-cell m a.count (omega arith)) (search rules) (search rules) (search rules) (search rules))),
)
