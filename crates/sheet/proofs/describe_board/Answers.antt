-- `describe_board`: the pick is in its room, and its bytes are a choice that pick may answer.
use mathlib.Core.Path.{refl}
use lib.ListN.{take}
use Rattle.sheet.proofs.Answers.{pick_told, sheet-of}
use Rattle.sheet.proofs.describe_board.Goals as goal

pub returns : goal.returns
returns c = λ x. let p = c.pick-picked in
    let n = c.length_in-n in
    record {
      ks = take n.result p.new.out;
      allowed = (pick_told x refl p.ensures n.result n.ensures.1).0;
      printed = c.board_text.ensures (sheet-of x);
    }
