-- What a step spends, said of rows of the offer list and of columns of the marking. Assumes nothing.
use Rattle.std.specs.Prelude.{ℕ, ◌+◌, ◌-◌, Bool, not, ◌&&◌, cond, List, ltb, eqb, drop}
use Rattle.paper.specs.Lists.{at, has, below, any}
use Rattle.paper.specs.Table.{out}
use Rattle.paper.specs.Marking.{Marking}
use Rattle.marking_held.specs.Filling.{Filled}

-- row y is in the word w and is a first offer, which was made from none, on edge e
abbrev pub spends_row : List ℕ → List ℕ → ℕ → ℕ → ℕ → Bool
spends_row last parents w e y = has w y && eqb (at parents y) 0 && eqb (at last y) e

-- edge e is spent
unfoldable pub spends : List ℕ → List ℕ → ℕ → ℕ → ℕ → Bool
spends last parents rows w e = any (spends_row last parents w e) (below rows)

-- an edge that leaves node i is spent, as p says
abbrev pub loses : (ℕ → Bool) → List ℕ → ℕ → Bool
loses p t i = any p (out t i)

-- a node that is marked so and keeps so many values loses the oldest
abbrev pub goes : ℕ → ℕ → Bool
goes mark kept = not (eqb mark 0) && not (eqb kept 0)

-- where the second value of a stock stands that starts at f, if two bytes say that place
abbrev pub second_value : ℕ → ℕ
second_value f = cond (ltb f 65532) (f + 4) 0

-- ---- the columns
-- of the first n edges those that p says have count 0
abbrev pub TokensGone : (ℕ → Bool) → List ℕ → List ℕ → ℕ → Type 0
TokensGone p old new n = Filled (λ e. cond (p e) 0 (at old e)) old new n

-- of the first n nodes those that p says and that are not empty lose the oldest value: the stock starts one later and has one less
pub record OldestGone (p : ℕ → Bool) (from kept from' kept' : List ℕ) (n : ℕ) : Type 0 where
  pub froms : Filled (λ i. cond (p i && not (eqb (at kept i) 0)) (second_value (at from i)) (at from i)) from from' n
  pub kepts : Filled (λ i. cond (p i && not (eqb (at kept i) 0)) (at kept i - 1) (at kept i)) kept kept' n

-- ---- the marking
-- m with the edges spent that p says: a count goes to 0
abbrev pub tokens_spent : (ℕ → Bool) → Marking → Marking
tokens_spent p m = record { ended = m.ended; runs = m.runs; stock = m.stock; tokens = λ e. cond (p e) 0 (m.tokens e) }

-- and a node that loses has one value less, the oldest
abbrev pub stocks_spent : (ℕ → Bool) → List ℕ → Marking → Marking
stocks_spent p t m = record {
  ended = m.ended;
  runs = m.runs;
  stock = λ i. cond (loses p t i) (drop 1 (m.stock i)) (m.stock i);
  tokens = m.tokens;
}

-- both
abbrev pub spent_by : (ℕ → Bool) → List ℕ → Marking → Marking
spent_by p t m = stocks_spent p t (tokens_spent p m)
