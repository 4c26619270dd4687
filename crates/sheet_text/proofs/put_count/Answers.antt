-- `put_count`: three pieces, one behind another. Assumes nothing.
use Rattle.std.proofs.Common.{rules, arith, length, ◌<◌}
use Rattle.sheet_numbers.proofs.Writing.{wrote_as, wrote_then, wrote_more}
use Rattle.sheet_numbers.proofs.Decimals.{byte-short}
use Rattle.sheet_text.proofs.Showing.{count-is}
use Rattle.sheet_text.proofs.put_count.Goals as goal

pub put_parted-b-requires : goal.put_parted-b-requires
put_parted-b-requires c = let p = c.requires in
    let x = c.put-a in
    omega (arith, p, x.ensures.place, x.auto, byte-short c.args.n p.0)

pub bounds-out-b : goal.bounds-out-b
bounds-out-b c = let p = c.requires in
    let x = c.put-a in
    let y = c.put_parted-b in
    omega (arith, p, x.ensures.place, x.auto, y.ensures.place, y.auto, byte-short c.args.n p.0)

pub returns : goal.returns
returns c = let p = c.requires in
    let x = c.put-a.ensures in
    let y = c.put_parted-b.ensures in
    (wrote_as (wrote_more (wrote_then x y) 10) (count-is c.args.n), omega (arith, x.place, y.place, byte-short c.args.n p.0))

pub overflow_add-result : goal.overflow_add-result
overflow_add-result c = let h : c.put_parted-b.result < length c.put_parted-b.new.out = bounds-out-b c in search rules
