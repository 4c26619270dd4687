-- `offers_join::taken` meets its contract: the loop has taken the first q offers chosen. Assumes nothing.
use mathlib.Core.List.{List}
use Prim.Native.Nat.{ℕ, ◌*◌, ◌≤◌}
use lib.ListN.{take}
use Rattle.paper.specs.Offers.{Offer}
use Rattle.offers.specs.Rows.{rows_in, Holds}
use Rattle.offers_join.specs.Joins.{Taken, Picked}
use Rattle.offers_join.proofs.taken.Given as goal

abbrev pub invariant-loop-q : goal.invariant-loop-q
invariant-loop-q l = (l.w.paths ≤ 8 * l.q) × ((t : List ℕ) (ts ps : List Offer) → Holds t (rows_in l.initial.rows l.count) ts → Picked ts l.chosen l.d ps → Holds t (rows_in l.rows l.count) ts × Taken t (rows_in l.rows l.count) ts (take l.q ps) l.w)
