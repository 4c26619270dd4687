-- Demands on the ends that are open between bounds, a list of them, and what ends go together. Assumes nothing.
use Rattle.std.specs.Prelude.{ℕ, ◌≤◌, ◌<◌, ◌≡◌, Bool, true, false, List}
use Rattle.std.specs.List.{All}
use Rattle.paper.specs.Lists.{has}
use Rattle.pick_bounds.specs.declared.Bounds.{Bounds}
use Rattle.pick_bounds.specs.declared.Rule.{Rule}
use Rattle.pick_bounds.specs.declared.Wanted.{Wanted}
use Rattle.pick_bounds.specs.Net.{held, meets, obeys}
use Rattle.pick_bounds.specs.Bounds.{Between}
use Rattle.pick_demands.specs.declared.Group.{Group}

-- every set that passes and lies between the bounds has so many of these ends at least, or at most
abbrev pub Asks : (ℕ → Bool) → Bounds → ℕ → ℕ → Type 0
Asks passing b ends least = (x : ℕ) → passing x ≡ true → Between b x → least ≤ held 32 x ends

abbrev pub Caps : (ℕ → Bool) → Bounds → ℕ → ℕ → Type 0
Caps passing b ends most = (x : ℕ) → passing x ≡ true → Between b x → held 32 x ends ≤ most

-- the demands of a list are asked of every such set
abbrev pub DemandsListed : (ℕ → Bool) → Bounds → List Wanted → Type 0
DemandsListed passing b list = All (λ d. Asks passing b d.ends d.least) list

-- a set that meets all demands of the list meets these ends
abbrev pub Rouses : List Wanted → ℕ → Type 0
Rouses list when = (x : ℕ) → All (λ d. d.least ≤ held 32 x d.ends) list → meets 32 x when ≡ true

-- every set that passes obeys a rule
abbrev pub Obeying : (ℕ → Bool) → Rule → Type 0
Obeying passing r = (x : ℕ) → passing x ≡ true → obeys 32 r x ≡ true

-- a set that passes and has end k has none of r
abbrev pub Shuns : (ℕ → Bool) → ℕ → ℕ → Type 0
Shuns passing k r = (x : ℕ) → passing x ≡ true → has x k ≡ true → meets 32 x r ≡ false

-- a set that passes has so many of these ends at most
abbrev pub Most : (ℕ → Bool) → ℕ → ℕ → Type 0
Most passing ends r = (x : ℕ) → passing x ≡ true → held 32 x ends ≤ r

-- a set that passes has one of the group at most, and none if it has one of the ends in common
pub record Huddled (passing : ℕ → Bool) (h : Group) : Type 0 where
  pub lone : Most passing h.ends 1
  pub apart : (k : ℕ) → k < 32 → has h.common k ≡ true → Shuns passing k h.ends
