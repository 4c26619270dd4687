-- Ends that a net doesn't tell apart. Assumes nothing.
use Rattle.std.specs.Prelude.{ℕ, ◌<◌, ◌≡◌, Bool, true, List}
use Rattle.paper.specs.Lists.{at, has}
use Rattle.paper.specs.Limits.{limits}
use Rattle.pick_bounds.specs.declared.Bounds.{Bounds}
use Rattle.pick_bounds.specs.Net.{size, rule_at}
use Rattle.pick_bounds.specs.Bounds.{Between}

-- each rule has both ends or neither among those that set it off, and among those that it counts
abbrev pub AlikeAll : List ℕ → ℕ → ℕ → Type 0
AlikeAll net k j = (i : ℕ) → i < size net → (has (rule_at net i).when j ≡ has (rule_at net i).when k) × (has (rule_at net i).only j ≡ has (rule_at net i).only k)

-- each other end has both or neither for rivals
abbrev pub AlikeRivals : List ℕ → ℕ → ℕ → Type 0
AlikeRivals net k j = (i : ℕ) → i < limits.most_ends → (i ≡ k → ⊥) → (j ≡ i → ⊥) → has (at net i) j ≡ has (at net i) k

-- the rivals of end k are rivals of end j too, j aside
abbrev pub SharesRivals : List ℕ → ℕ → ℕ → Type 0
SharesRivals net k j = (j < limits.most_ends) × ((i : ℕ) → has (at net k) i ≡ true → (i ≡ j → ⊥) → has (at net j) i ≡ true)

-- no set that passes and lies between the bounds has end k
abbrev pub Lacking : (ℕ → Bool) → Bounds → ℕ → Type 0
Lacking passing b k = (x : ℕ) → passing x ≡ true → Between b x → has x k ≡ true → ⊥
