-- What a step is made on: a board as it was read, and what judging and moving answer. Assumes nothing.
use Rattle.std.specs.Prelude.{ℕ, ◌≤◌, ◌≡◌, false, List, [], length}
use Rattle.paper.specs.Limits.{limits}
use Rattle.paper.specs.Answers.{Answer, good, ◌>>=◌, judged_by}
use Rattle.paper.specs.Marking.{encode}
use Rattle.paper.specs.Choices.{Board, rules, next}
use Rattle.paper.specs.Operations.{step_of}
use Rattle.offers.specs.declared.Offers.{Offers}
use Rattle.ends_masks.specs.declared.Ends.{Ends}
use Rattle.ends_masks.specs.Seating.{Stands}
use Rattle.marking_held.specs.MarkingHeld.{Held, MarkingHeld}

-- rows 10 to 12, and the marking after the choice c
unfoldable pub settled : List ℕ → Board → ℕ → Answer (List ℕ)
settled t d c = do
  _ ← judged_by (rules d) c
  good (encode t (next d c))

-- rows 9 to 12, and the marking after the choice that the bytes name
unfoldable pub chosen : List ℕ → Board → List ℕ → Answer (List ℕ)
chosen t d ks = do
  m ← step_of d ks
  good (encode t m)

-- a board that stands in the offers o and the ends e, and whose marking, which is live, is held as it was read from the bytes b; nothing comes
pub record Standing (t b : List ℕ) (o : Offers) (e : Ends) (x : Held) : Type 0 where
  pub on : Board
  pub stands : Stands t on o e x.runs x.kept
  pub live : on.current.ended ≡ false
  pub short : length b ≤ limits.longest_marking
  pub held_as : MarkingHeld t on.current b [] x
