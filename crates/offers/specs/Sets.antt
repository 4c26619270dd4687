-- Words that stand for sets of the offers of a list: makers, origins, and the earlier offers that clash. Assumes nothing.
use Rattle.std.specs.Prelude.{◌≡◌, ℕ, ◌^◌, ◌<◌, Bool, not, ◌&&◌, ◌||◌, List, eqb, ltb, length, get_or}
use Rattle.std.proofs.Math.Option.{none}
use Rattle.std.specs.Int.Bits.{bit_and}
use Rattle.paper.specs.Lists.{any, below, has}
use Rattle.paper.specs.Offers.{Offer, first, elem, clash}
use Rattle.paper.proofs.Members.{In}

-- offer number i
abbrev pub nth : List Offer → ℕ → Offer
nth ts i = get_or ts i (first 0 none)

-- the word w stands for the members of xs, all of them in ts
pub record Means (ts : List Offer) (w : ℕ) (xs : List Offer) : Type 0 where
  pub small : w < 2 ^ length ts
  pub says : (j : ℕ) → j < length ts → has w j ≡ elem (nth ts j) xs
  pub inside : (x : Offer) → In x xs → In x ts

-- of the numbers below c, d has those that pass
pub record Marks (p : ℕ → Bool) (c d : ℕ) : Type 0 where
  pub small : d < 2 ^ c
  pub says : (j : ℕ) → j < c → has d j ≡ p j

-- j comes before k, and the two clash
abbrev pub early : List ℕ → List Offer → ℕ → ℕ → Bool
early t ts j k = ltb j k && clash t (nth ts k) (nth ts j)

-- f has the offers that clash with a later one in m
pub record Foes (t : List ℕ) (ts : List Offer) (f m : ℕ) : Type 0 where
  pub small : f < 2 ^ length ts
  pub says : (j : ℕ) → j < length ts → has f j ≡ any (λ k. has m k && early t ts j k) (below (length ts))

-- two sets of makers, w and v, with their foes f and g, have offers that clash
abbrev pub words_clash : ℕ → ℕ → ℕ → ℕ → Bool
words_clash f w g v = not (eqb (bit_and f v) 0) || not (eqb (bit_and g w) 0)
