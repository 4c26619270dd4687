-- When a search for one offer on every open edge is dead. Offers are numbers below count, edges are words of them. Assumes nothing.
use Rattle.std.specs.Prelude.{◌≡◌, ℕ, ◌≤◌, ◌<◌, true, false, List, length, get_or}
use Rattle.paper.specs.Lists.{has}
use Rattle.paper.specs.Limits.{limits}

-- there is a word for each offer and for each edge, and no more of either than a word has digits
pub record AheadRoom (rivals edges : List ℕ) (count to : ℕ) : Type 0 where
  pub rows : count ≤ length rivals
  pub few-offers : count ≤ limits.most_offers
  pub words : to ≤ length edges
  pub few-edges : to ≤ limits.most_offers

-- an edge that has yet to be served
pub record Open (from to served k : ℕ) : Type 0 where
  pub low : from ≤ k
  pub high : k < to
  pub unserved : has served k ≡ false

-- offer i is on edge k and not blocked
pub record Serves (edges : List ℕ) (count blocked k i : ℕ) : Type 0 where
  pub small : i < count
  pub on_edge : has (get_or edges k 0) i ≡ true
  pub free : has blocked i ≡ false

-- no choice y of an offer for each open edge has them all fit and no two of them rivals
unfoldable pub Dead : List ℕ → List ℕ → ℕ → ℕ → ℕ → ℕ → ℕ → Type 0
Dead rivals edges count from to served blocked =
    (y : ℕ → ℕ)
    → ((k : ℕ) → Open from to served k → Serves edges count blocked k (y k))
    → ((j k : ℕ) → Open from to served j → Open from to served k → (j ≡ k → ⊥) → has (get_or rivals (y j) 0) (y k) ≡ false)
    → ⊥
