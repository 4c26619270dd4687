-- The struct Offers, and beside it what it doesn't keep, seen as rows. Assumes nothing.
use Rattle.std.specs.Prelude.{◌≡◌, ℕ, ◌+◌, ◌*◌, ◌%◌, ◌≤◌, ◌<◌, List, length, get_or}
use Rattle.offers.specs.Rows.{Rows, entry_of, cell}
use Rattle.offers.specs.declared.Offers.{Offers}
use Rattle.paper.specs.Limits.{limits}

-- what the struct doesn't keep of the rows: numbers of paths, makers, foes, and what each path goes on from
pub record Beside : Type 0 where
  pub paths : ℕ → ℕ
  pub makers : ℕ → ℕ
  pub foes : ℕ → ℕ
  pub before : ℕ → ℕ → ℕ

-- as the cells m have it
abbrev pub beside_in : List ℕ → Beside
beside_in m = record { paths = λ i. cell m i 4; makers = λ i. cell m i 6; foes = λ i. cell m i 7; before = λ i k. get_or m (16 * i + 8 + k) 0 }

abbrev pub rows_of : Offers → Beside → Rows
rows_of o beside = record {
  entry = λ i.
      entry_of (get_or o.last i 0) (get_or o.node i 0) (get_or o.has i 0) (get_or o.value i 0) (beside.paths i)
      (get_or o.parents i 0) (beside.makers i) (beside.foes i);
  before = beside.before;
  count = o.count;
}

-- the arrays of o are the first c rows in the cells m, cut to the arrays' widths
pub record Copied (m : List ℕ) (c : ℕ) (o : Offers) : Type 0 where
  pub count-is : o.count ≡ c
  pub lasts : (i : ℕ) → i < c → get_or o.last i 0 ≡ get_or m (16 * i + 0) 0 % 256
  pub nodes-are : (i : ℕ) → i < c → get_or o.node i 0 ≡ get_or m (16 * i + 1) 0 % 256
  pub haves : (i : ℕ) → i < c → get_or o.has i 0 ≡ get_or m (16 * i + 2) 0 % 256
  pub values-are : (i : ℕ) → i < c → get_or o.value i 0 ≡ get_or m (16 * i + 3) 0 % 4294967296
  pub parents-are : (i : ℕ) → i < c → get_or o.parents i 0 ≡ get_or m (16 * i + 5) 0

-- the arrays have the lengths that they are declared with, which their types as lists don't say, and there are no more offers than those
pub record Full (o : Offers) : Type 0 where
  pub lasts-full : length o.last ≡ limits.most_offers
  pub nodes-full : length o.node ≡ limits.most_offers
  pub haves-full : length o.has ≡ limits.most_offers
  pub values-full : length o.value ≡ limits.most_offers
  pub parents-full : length o.parents ≡ limits.most_offers
  pub few : o.count ≤ limits.most_offers
