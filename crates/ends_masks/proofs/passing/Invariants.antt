-- `ends_masks::passing` meets its contract: the word marks the numbers below k that pass. Assumes nothing.
use mathlib.Core.Path.{◌≡◌}
use mathlib.Core.Bool.{Bool}
use Prim.Native.Nat.{ℕ, ◌<◌}
use Rattle.offers.specs.Sets.{Marks}
use Rattle.ends_masks.proofs.passing.Given as goal

abbrev pub invariant-loop-k : goal.invariant-loop-k
invariant-loop-k g l = (p : ℕ → Bool) → ((k : ℕ) (on : Bool) → k < l.n → goal.P-post g l.passes k on → on ≡ p k) → Marks p l.k l.w
