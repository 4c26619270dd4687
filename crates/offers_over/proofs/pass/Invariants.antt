-- `offers_over::pass` meets its contract: the loop goes through the list of the incoming edges. Assumes nothing.
use mathlib.Core.List.{List}
use Prim.Native.Nat.{ℕ, ◌-◌, ◌≤◌}
use Rattle.paper.specs.Limits.{limits}
use Rattle.paper.specs.Offers.{Offer}
use Rattle.offers.specs.Rows.{rows_in}
use Rattle.offers_over.specs.Over.{admitted, Pass}
use Rattle.offers_over.proofs.Parts.{Passing}
use Rattle.offers_over.proofs.pass.Given as goal

abbrev pub invariant-loop-j : goal.invariant-loop-j
invariant-loop-j l =
    ((l.count ≤ l.c) × (l.c ≤ limits.most_offers))
    × ((t : List ℕ) (ts : List Offer) (on : ℕ → List Offer) → Pass t (rows_in l.initial.rows l.count) ts on l.first l.next l.from l.to l.onto (admitted l.gate)
    → Passing t (rows_in l.rows l.c) ts on l.next l.onto (admitted l.gate) l.j)

abbrev pub decreases-loop-j : goal.decreases-loop-j
decreases-loop-j l = limits.most_edges - l.j
