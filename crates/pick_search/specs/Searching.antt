-- What each step of the search promises, and what the search itself. Assumes nothing.
use Rattle.std.specs.Prelude.{ℕ, ◌+◌, ◌*◌, ◌-◌, ◌%◌, ◌^◌, ◌≤◌, ◌<◌, ◌≡◌, Bool, true, false, Some, None}
use Rattle.paper.proofs.Search.{look}
use Rattle.pick_bounds.specs.declared.Bounds.{Bounds}
use Rattle.pick_search.specs.declared.Place.{Place}
use Rattle.pick_search.specs.declared.Spot.{Spot}
use Rattle.pick_scout.specs.declared.Visit.{Visit}
use Rattle.pick_scout.specs.Scouting.{said, seen}
use Rattle.pick_bounds.specs.Net.{passes, Net}
use Rattle.paper.specs.Choices.{FirstOf}
use Rattle.std.specs.Prelude.{Option}
use Rattle.pick_bounds.specs.Bounds.{Between}

-- ---- the first set of m ends that passes, or that none does
unfoldable pub Answers : Net → ℕ → Option ℕ → Type 0
Answers net m (Some c) = FirstOf (passes m net) m c
Answers net m None = (x : ℕ) → x < 2 ^ m → passes m net x ≡ false

-- ---- step by step
-- each set of m ends that passes and whose digits below k are those of `taken` lies between the bounds
abbrev pub Confined : (ℕ → Bool) → ℕ → ℕ → ℕ → Bounds → Type 0
Confined passing m k taken b = (x : ℕ) → x < 2 ^ m → x % 2 ^ k ≡ taken → passing x ≡ true → Between b x

-- of m ends the last `left` are open, `bit` is the weight of the first of these, and `taken` holds the choice for those before it
pub record AtPlace (m left : ℕ) (p : Place) : Type 0 where
  pub few : left ≤ m
  pub weight : p.bit ≡ 2 ^ (m - left)
  pub small : p.taken < p.bit

-- the next end, and `end` is taken
abbrev pub stepped : Place → ℕ → Place
stepped p end = record { bit = p.bit * 2; taken = p.taken + end }

-- further on, where fewer ends are open, the same is found, and all that pass there lie between the bounds too
abbrev pub Skipped : (ℕ → Bool) → ℕ → ℕ → Place → Bounds → Spot → Type 0
Skipped passing m left p b s =
    Confined passing m (m - left) p.taken b
    → (look passing left (m - left) p.taken ≡ look passing s.left (m - s.left) s.place.taken) × Confined passing m (m - s.left) s.place.taken b

-- the search from a place finds what `look`, the search through all sets, does, if all that pass lie between the bounds; and it visits a state at
-- least, and for each part of the open ends no more than a survey does
pub record Visited (passing : ℕ → Bool) (m left : ℕ) (p : Place) (b : Bounds) (v : Visit) : Type 0 where
  pub finds : Confined passing m (m - left) p.taken b → said v ≡ look passing left (m - left) p.taken
  pub some-seen : 1 ≤ seen v
  pub most_seen : seen v + 2097152 ≤ 2097152 * 2 ^ (left + 1)
