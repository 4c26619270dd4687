-- What start and finish end with. Assumes nothing.
use Rattle.std.specs.Prelude.{ℕ, ◌≡◌, Bool, false, List}
use Rattle.paper.specs.Answers.{Answer, good, ◌>>=◌}
use Rattle.paper.specs.Marking.{Marking, encode}
use Rattle.marking_held.specs.MarkingHeld.{Held}
use Rattle.marking_give.specs.Giving.{give_of, Givable}

-- the marking after the lists of b are appended and the tokens handed out, as bytes
unfoldable pub delivered : List ℕ → ℕ → ℕ → (ℕ → Bool) → Marking → List ℕ → Answer (List ℕ)
delivered t k o fires m b = do
  m' ← give_of t k o fires m b
  good (encode t m')

-- a marking that is held, has not ended and can be given to
pub record Deliverable (t : List ℕ) (k o : ℕ) (old : List ℕ) (x : Held) : Type 0 where
  pub current : Marking
  pub live : current.ended ≡ false
  pub givable : Givable t k o current old x
