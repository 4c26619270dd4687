-- What is laid of a board: the offers and ends of the paper's board by rows, and the ends' paths, over what is held of the marking.
-- Assumes nothing.
use Rattle.std.specs.Prelude.{ℕ, ◌≡◌, Bool, List, [], Result, Ok, Err}
use Rattle.paper.specs.Answers.{refused, good}
use Rattle.paper.specs.Offers.{Offer, elem, Terms}
use Rattle.paper.specs.Choices.{board, Board}
use Rattle.offers.specs.Rows.{rows_in, Holds}
use Rattle.wire.specs.declared.Refusal.{Refusal}
use Rattle.wire.specs.Refusals.{number, place}
use Rattle.board.specs.declared.reading.Counts.{Counts}
use Rattle.ends.specs.Ends.{Rooms, EndsListed}
use Rattle.marking_held.specs.MarkingHeld.{Held, MarkingHeld}

-- the slices lent for the ends in order, each a row of the offers, and for their paths in order, each in a block of 16 cells
pub record EndsLent : Type 0 where
  pub ends : List ℕ
  pub order : List ℕ
  pub lens : List ℕ
  pub cells : List ℕ

abbrev pub ends_lent : List ℕ → List ℕ → List ℕ → List ℕ → EndsLent
ends_lent e o l c = record { ends = e; order = o; lens = l; cells = c }

-- there is room for the ends
abbrev pub EndsRoom : EndsLent → Type 0
EndsRoom s = Rooms s.ends s.order s.lens s.cells

-- the board of n ends; its offers are the first c rows in the cells m
pub record Laid (show : Bool) (t b : List ℕ) (w : Terms) (x : Held) (m : List ℕ) (c : ℕ) (s : EndsLent) (n : ℕ) : Type 0 where
  pub on : Board
  pub trees : List Offer
  pub is-board : board t b w ≡ good on
  pub table_is : on.table ≡ t
  pub holds_ts : Holds t (rows_in m c) trees
  pub offers-are : (y : Offer) → elem y trees ≡ elem y on.all_offers
  pub listed : EndsListed trees on.all_ends show s.ends s.order s.lens s.cells n
  pub held_as : MarkingHeld t on.current b [] x

-- row 8 of a live marking under fine terms, and the board
abbrev pub BoardLaid : Bool → List ℕ → List ℕ → Terms → Held → List ℕ → EndsLent → Result Counts Refusal → Type 0
BoardLaid show t b w x m s (Ok n) = Laid show t b w x m n.offers s n.ends
BoardLaid show t b w x m s (Err e) = board t b w ≡ refused (number e) (place e)
