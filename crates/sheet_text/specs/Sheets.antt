-- Of which bytes a text is made. Assumes nothing.
use Rattle.std.specs.Prelude.{◌≡◌, List, ℕ}
use Rattle.paper.specs.Answers.{good}
use Rattle.paper.specs.Offers.{Terms}
use Rattle.paper.specs.Choices.{Board, board}
use Rattle.paper.specs.Operations.{sheet_bytes}
use Rattle.paper.proofs.Bytes.{Bytes}

-- s is the sheet of a board of the table t
pub record Sheet (t s : List ℕ) : Type 0 where
  pub of : Board
  pub marking : List ℕ
  pub under : Terms
  pub marking-bytes : Bytes marking
  pub is-board : board t marking under ≡ good of
  pub is-sheet : s ≡ sheet_bytes of.all_ends
