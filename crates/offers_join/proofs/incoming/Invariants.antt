-- `offers_join::incoming` meets its contract: the loop goes through the list of the incoming edges, and stops where an edge can't be served. Assumes nothing.
use mathlib.Core.List.{List}
use Prim.Native.Nat.{ℕ, ◌-◌, ◌≤◌}
use lib.ListN.{get_or}
use Rattle.paper.specs.Limits.{limits}
use Rattle.table.specs.Incoming.{ListFrom}
use Rattle.offers_join.proofs.Words.{Listing}
use Rattle.offers_join.proofs.incoming.Given as goal

abbrev pub invariant-loop-j : goal.invariant-loop-j
invariant-loop-j l =
    (l.d ≤ limits.most_offers) × ((js : List ℕ) → ListFrom l.next (get_or l.first l.s 0) js → Listing l.next l.from l.to js l.lo l.hi l.d l.j)

abbrev pub decreases-loop-j : goal.decreases-loop-j
decreases-loop-j l = limits.most_edges - l.j
