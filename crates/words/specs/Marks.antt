-- Marks: a byte for each of some places, 1 where a test passes and 0 where not. A pass marks the places of what it finds. Assumes nothing.
use Rattle.std.specs.Prelude.{ℕ, ◌<◌, ◌≡◌, Bool, not, ◌&&◌, cond, List, eqb, set}
use Rattle.paper.specs.Lists.{at, below, any, one_if}

-- the marks of the places below n that pass p
pub record MarksOf (p : ℕ → Bool) (n : ℕ) (marks : List ℕ) : Type 0 where
  pub tell : (a : ℕ) → a < n → at marks a ≡ one_if (p a)

-- place a is marked
abbrev pub is_marked : List ℕ → ℕ → Bool
is_marked marks a = not (eqb (at marks a) 0)

-- a is the place f x of a number x below j that passes q
abbrev pub placed : (ℕ → Bool) → (ℕ → ℕ) → ℕ → ℕ → Bool
placed q f j a = any (λ x. q x && eqb (f x) a) (below j)

-- a mark at i, if the test passes
abbrev pub marked : List ℕ → Bool → ℕ → List ℕ
marked marks b i = cond b (set marks i 1) marks
