-- What the search for a choice answers. Assumes nothing.
use Rattle.std.specs.Prelude.{ℕ, ◌^◌, ◌<◌, ◌≡◌, Bool, false, Some, None}
use Rattle.paper.specs.Choices.{FirstOf}
use Rattle.std.specs.Prelude.{Option}

-- ---- the first set of n ends that passes, or that none does
unfoldable pub Answered : (ℕ → Bool) → ℕ → Option ℕ → Type 0
Answered passing n (Some c) = FirstOf passing n c
Answered passing n None = (x : ℕ) → x < 2 ^ n → passing x ≡ false
