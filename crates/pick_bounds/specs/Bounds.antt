-- What each step of the search promises. A set is looked for between two others, `must` and `may`, which are words of 32 digits; a step may draw them
-- closer together, and loses no set that passes. Assumes nothing.
use Rattle.std.specs.Prelude.{ℕ, ◌<◌, ◌≡◌, Bool, true, not, ◌&&◌, List, leb}
use Rattle.paper.specs.Lists.{has, below, all}
use Rattle.paper.specs.Limits.{limits}
use Rattle.pick_bounds.specs.declared.Wanted.{Wanted}
use Rattle.pick_bounds.specs.declared.Rule.{Rule}
use Rattle.pick_bounds.specs.declared.Bounds.{Bounds}
use Rattle.pick_bounds.specs.Net.{held, meets, obeys, passes, rivals_at, net_of}

-- a word passes the net
abbrev pub good : List ℕ → Wanted → ℕ → Bool
good net want = passes 32 (net_of net want)

-- a word has no two ends that are rivals; it has what is wanted; it has that and obeys a rule
unfoldable pub apart : List ℕ → ℕ → Bool
apart net x = all (λ k. obeys 32 (rivals_at net k) x) (below limits.most_ends)

abbrev pub enough : Wanted → ℕ → Bool
enough want x = leb want.least (held 32 x want.ends)

abbrev pub heeds : Wanted → Rule → ℕ → Bool
heeds want r x = enough want x && obeys 32 r x

-- each end in a is in b
abbrev pub Part : ℕ → ℕ → Type 0
Part a b = (k : ℕ) → k < 32 → has a k ≡ true → has b k ≡ true

-- r is c without the ends in d
abbrev pub Without : ℕ → ℕ → ℕ → Type 0
Without c d r = (k : ℕ) → has r k ≡ has c k && not (has d k)

pub record Between (b : Bounds) (x : ℕ) : Type 0 where
  pub above : Part b.must x
  pub under : Part x b.may

-- each set that passes and lies between the bounds b lies between r too
abbrev pub Keeps : (ℕ → Bool) → Bounds → Bounds → Type 0
Keeps passing b r = (x : ℕ) → passing x ≡ true → Between b x → Between r x

-- no set that passes lies between the bounds
abbrev pub NoneIn : (ℕ → Bool) → Bounds → Type 0
NoneIn passing b = (x : ℕ) → passing x ≡ true → Between b x → ⊥

-- every set between the bounds that has what is wanted meets these ends
abbrev pub SetOff : Wanted → ℕ → Bounds → Type 0
SetOff want when b = (x : ℕ) → enough want x ≡ true → Between b x → meets 32 x when ≡ true
