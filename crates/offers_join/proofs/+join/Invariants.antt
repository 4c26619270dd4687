-- `offers_join::join` meets its contract: by recursion on the edges left; the loop has tried the offers of edge q before i. Assumes nothing.
use Rattle.std.proofs.Common.{◌≡◌, ℕ, ◌-◌, ◌<◌, ◌≤◌, Bool, List, get_or}
use Rattle.std.proofs.Math.Option.{Option}
use Rattle.paper.specs.Offers.{Offer}
use Rattle.paper.specs.Limits.{limits}
use Rattle.offers.specs.Rows.{rows_in, Holds}
use Rattle.offers_join.specs.Joins.{Within, Dfs}
use Rattle.offers_join.proofs.Searches.{tried}
use Rattle.offers_join.proofs.+join.Given as goal

abbrev pub decreases-join : goal.decreases-join
decreases-join l = l.d - l.q

abbrev pub invariant-loop-i : goal.invariant-loop-i
invariant-loop-i l =
    ((l.count ≤ l.c) × (l.c ≤ limits.most_offers))
    × (((x : ℕ) → x < l.q → get_or l.chosen x 0 ≡ get_or l.initial.chosen x 0)
    × ((t : List ℕ) (goes : Option ℕ → Bool) (ts pre : List Offer) (oss : List (List Offer)) (wanted : ℕ)
    (y : Dfs t goes (rows_in l.initial.rows l.count) ts pre oss l.lo l.hi l.rivals l.edges l.initial.chosen l.n l.d l.q l.blocked wanted l.onto)
    (rg : Within l.lo l.hi l.d l.n) (lq : l.q < l.d) → Holds t (rows_in l.rows l.c) (tried y rg lq (l.i - get_or l.lo l.q 0))))
