-- A board that was laid stands in its offers, its ends by value and what is held. Assumes nothing.
use mathlib.Core.Path.{◌≡◌, ap}
use mathlib.Core.Bool.{Bool}
use mathlib.Core.List.{List}
use Prim.Native.Nat.{ℕ}
use native.Mathlib.Omega.{arith}
use lib.ListN.{length}
use Rattle.paper.specs.Answers.{good}
use Rattle.paper.specs.Offers.{Terms}
use Rattle.paper.specs.Choices.{board}
use Rattle.paper.proofs.Boards.{board-good}
use Rattle.paper.proofs.Bytes.{Bytes}
use Rattle.paper.proofs.OneMarking.{read-is-good, encode-fits}
use Rattle.offers.specs.Struct.{Copied}
use Rattle.offers.specs.declared.Offers.{Offers}
use Rattle.ends_masks.specs.Seating.{EndsSeated}
use Rattle.ends_masks.specs.declared.Ends.{Ends}
use Rattle.marking_held.specs.MarkingHeld.{Held}
use Rattle.board.specs.Reading.{EndsLent, Laid}
use Rattle.board.proofs.BoardLaws.{laid_stands}
use Rattle.step.specs.Stepping.{Standing}

module _ {show : Bool} {t b : List ℕ} {w : Terms} {x : Held} {m : List ℕ} {c : ℕ} {s : EndsLent} {n : ℕ} (l : Laid show t b w x m c s n) (u : Bytes b)
    (o : Offers) (copied : Copied m c o) (e : Ends) (count-is : e.count ≡ n) (h : EndsSeated t m s.ends e) where
  pub laid_standing : Standing t b o e x
  laid_standing =
      let f = board-good t b w l.on l.is-board in
      let r = read-is-good t b l.on.current u f.is_read in
      record {
        on = l.on;
        stands = laid_stands l o copied e count-is h;
        live = f.facts.live;
        short = omega (arith, encode-fits t l.on.current f.table-fine r.0, ap length r.1);
        held_as = l.held_as;
      }

  -- it is the board that was laid
  pub standing_board : board t b w ≡ good laid_standing.on
  unfolding laid_standing
  standing_board = l.is-board
