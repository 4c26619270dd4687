-- What is asked about a board, and what the paper lets each request leave. Assumes nothing.
use Rattle.std.specs.Prelude.{ℕ, ◌+◌, ◌^◌, ◌≤◌, ◌<◌, ◌≡◌, Bool, true, false, List}
use Rattle.paper.specs.Answers.{Answer, refused, good}
use Rattle.paper.specs.Offers.{Terms}
use Rattle.paper.specs.Choices.{Board, board, how_many}
use Rattle.paper.specs.Operations.{Leaves, Only, packed, sheet, Pick, Why, step}
use Rattle.keshmirun.specs.declared.asking.Request.{Request}
use Rattle.keshmirun.specs.declared.asking.Request.TheVariants.{Sheet, Choice}
use Rattle.keshmirun.specs.declared.asking.Query.TheVariants.{Pick as PickFor, Why as WhyFor, Step, Count}

-- how many states a search visits, within a range only: a measure, and no answer of an operation
unfoldable pub Counted : Answer Board → ℕ → Type 0
Counted (refused k p) word = word ≡ packed k p 0
Counted (good d) word = (1 ≤ word) × (word < 2 ^ (how_many d + 22))

-- whether the ends' paths are shown
abbrev pub shows : Request → Bool
shows Sheet = true
shows (Choice a) = false

abbrev pub Responds : Request → (t b : List ℕ) → Terms → (ks : List ℕ) → ℕ → (before after : List ℕ) → Type 0
Responds Sheet t b w ks word before after = Leaves (Only (sheet t b w)) word before after
Responds (Choice (PickFor i)) t b w ks word before after = Leaves (Pick t b w i) word before after
Responds (Choice (WhyFor i)) t b w ks word before after = Leaves (Why t b w i) word before after
Responds (Choice Step) t b w ks word before after = Leaves (Only (step t b w ks)) word before after
Responds (Choice (Count i k)) t b w ks word before after = Counted (board t b w) word × (after ≡ before)
