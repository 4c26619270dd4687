-- `put_pick`: three pieces, one behind another. Assumes nothing.
use native.Mathlib.Omega.{arith}
use Rattle.sheet_numbers.proofs.Writing.{wrote_as, wrote_then, wrote_more}
use Rattle.sheet_text.proofs.Showing.{pick_is}
use Rattle.sheet_text.proofs.put_pick.Goals as goal

pub returns : goal.returns
returns c = let x = c.put-a.ensures in
    let y = c.put_commas-b.ensures in
    (wrote_as (wrote_more (wrote_then x y.0) 10) (pick_is c.args.choice.now), omega (arith, x.place, y.1))
