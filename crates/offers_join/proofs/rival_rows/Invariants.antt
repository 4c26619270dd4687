-- `offers_join::rival_rows` meets its contract: the loop has a row for each offer below i that is wanted. Assumes nothing.
use mathlib.Core.List.{List}
use Prim.Native.Nat.{ℕ}
use Rattle.paper.specs.Offers.{Offer}
use Rattle.offers.specs.Rows.{rows_in, Holds}
use Rattle.offers_join.proofs.Words.{RowsBelow}
use Rattle.offers_join.proofs.rival_rows.Given as goal

abbrev pub invariant-loop-i : goal.invariant-loop-i
invariant-loop-i l = (t : List ℕ) (ts : List Offer) → Holds t (rows_in l.rows l.count) ts → RowsBelow t ts l.count l.i l.wanted l.rivals
