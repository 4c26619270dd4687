-- `offers_over::extend_all` meets its contract: the loop has dealt with the offers from a to i. Assumes nothing.
use mathlib.Core.List.{List, ◌++◌}
use Prim.Native.Nat.{ℕ, ◌-◌, ◌≤◌}
use lib.ListN.{take}
use Rattle.paper.specs.Offers.{Offer}
use Rattle.paper.specs.Limits.{limits}
use Rattle.offers.specs.Rows.{rows_in, Holds}
use Rattle.offers_over.specs.Over.{admitted, let_over, overs, Ext}
use Rattle.offers_over.proofs.extend_all.Given as goal

abbrev pub invariant-loop-i : goal.invariant-loop-i
invariant-loop-i l =
    ((l.count ≤ l.c) × (l.c ≤ limits.most_offers))
    × ((t : List ℕ) (ts xs : List Offer) → Ext t (rows_in l.initial.rows l.count) ts xs l.a l.b l.onto (admitted l.gate)
    → Holds t (rows_in l.rows l.c) (ts ++ overs l.onto.edge (let_over (admitted l.gate) (take (l.i - l.a) xs))))
