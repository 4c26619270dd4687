-- What a scout promises. Assumes nothing.
use Rattle.std.specs.Prelude.{ℕ, ◌+◌, ◌^◌, ◌≤◌, ◌<◌, ◌≡◌, Bool, Result, Ok, Err}
use Rattle.std.proofs.Math.Option.{Option, none, some}
use Rattle.pick_bounds.specs.declared.Bounds.{Bounds}
use Rattle.pick_bounds.specs.Bounds.{NoneIn}
use Rattle.pick_scout.specs.declared.Hint.{Hint}
use Rattle.pick_scout.specs.declared.Visit.{Visit}

-- the set that was found, if one was
abbrev pub chosen : Result ℕ ℕ → Option ℕ
chosen (Ok c) = some c
chosen (Err c) = none

abbrev pub said : Visit → Option ℕ
said v = chosen v.found

abbrev pub seen : Visit → ℕ
seen v = v.states

-- what one state shows
abbrev pub at_once : Result ℕ ℕ → Visit
at_once found = record { found = found; states = 1 }

-- the hint r after a search, where it was h: the set that was found is in view, or what was before
abbrev pub HintedBy : Result ℕ ℕ → Hint → Hint → Type 0
HintedBy (Ok c) h r = (r.ends ≡ c) × (r.blame ≡ h.blame)
HintedBy (Err c) h r = r.ends ≡ h.ends

abbrev pub Hinted : Visit → Hint → Hint → Type 0
Hinted v h r = HintedBy v.found h r

-- a scout who finds nothing is right; trying `left` ends at most, it visits a state at least, and no more than all
pub record Scouted (passing : ℕ → Bool) (left : ℕ) (b : Bounds) (v : Visit) : Type 0 where
  pub sure : said v ≡ none → NoneIn passing b
  pub some-seen : 1 ≤ seen v
  pub most_seen : seen v < 2 ^ (left + 1)
