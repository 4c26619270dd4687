-- What is known of a stream's parts, and what is printed for them. Assumes nothing.
use Rattle.std.specs.Prelude.{◌≡◌, List, ℕ, ◌≤◌, length}
use Rattle.paper.specs.Answers.{Answer, good}
use Rattle.paper.specs.Offers.{Terms}
use Rattle.paper.specs.Choices.{Board, board}
use Rattle.paper.specs.Operations.{Pick, sheet_bytes}
use Rattle.paper.specs.Program.{board_text, text}
use Rattle.paper.proofs.Bytes.{Bytes}
use Rattle.sheet_numbers.specs.Written.{Printed}

module _ (t m : List ℕ) (under : Terms) where
  -- table, marking and terms are a board, and the bytes are its sheet
  pub record Shown (bytes : List ℕ) : Type 0 where
    pub on : Board
    pub is-board : board t m under ≡ good on
    pub is-sheet : bytes ≡ sheet_bytes on.all_ends
    pub marking-bytes : Bytes m
    pub short : length bytes ≤ 4096

  -- the text of a board and of a pick among its ends is printed
  pub record PrintsPick (on : Board) (old new : List ℕ) (n : ℕ) : Type 0 where
    pub ks : List ℕ
    pub allowed : Pick t m under 255 (good ks)
    pub printed : Printed (board_text on ks) old new n

  -- what is written for a stream of these parts
  pub record PrintsParts (written : List ℕ) : Type 0 where
    pub picked : Answer (List ℕ)
    pub allowed : Pick t m under 255 picked
    pub is-text : written ≡ text (board t m under) picked
