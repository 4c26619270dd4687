-- A lent slice that is filled from the front. Assumes nothing.
use Rattle.std.specs.Prelude.{◌≡◌, ℕ, ◌≤◌, ◌<◌, List, length}
use Rattle.paper.specs.Lists.{at}

-- the first n entries are f's, and the others as they were
pub record Filled (f : ℕ → ℕ) (old new : List ℕ) (n : ℕ) : Type 0 where
  pub done : (k : ℕ) → k < n → at new k ≡ f k
  pub rest : (k : ℕ) → n ≤ k → at new k ≡ at old k
  pub long : length new ≡ length old
