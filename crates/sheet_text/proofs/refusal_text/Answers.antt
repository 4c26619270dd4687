-- `refusal_text`: four pieces, one behind another. Assumes nothing.
use Rattle.std.proofs.Common.{rules, arith, length, ◌<◌}
use Rattle.sheet_numbers.proofs.Writing.{wrote_as, wrote_then, wrote_more, printed}
use Rattle.sheet_numbers.proofs.Decimals.{decimal-short}
use Rattle.sheet_text.proofs.Showing.{refusal_is}
use Rattle.sheet_text.proofs.refusal_text.Goals as goal

pub put_parted-b-requires : goal.put_parted-b-requires
put_parted-b-requires c = let x = c.put-a in
    omega (arith, c.requires, x.ensures.place, x.auto, decimal-short c.args.number)

pub put_parted-e-requires : goal.put_parted-e-requires
put_parted-e-requires c = let a = c.args in
    let x = c.put-a in
    let y = c.put_parted-b in
    omega (arith, c.requires, x.ensures.place, x.auto, y.ensures.place, y.auto, decimal-short a.number, decimal-short a.place)

pub returns : goal.returns
returns c = let a = c.args in
    let x = c.put-a.ensures in
    let y = c.put_parted-b.ensures in
    let z = c.put_parted-e.ensures in
    printed (wrote_as (wrote_more (wrote_then (wrote_then x y) z) 10) (refusal_is a.number a.place)) (omega (arith, c.requires, x.place, y.place, z.place, decimal-short a.number, decimal-short a.place))

pub bounds-out-e : goal.bounds-out-e
bounds-out-e c = let a = c.args in
    let x = c.put-a in
    let y = c.put_parted-b in
    let z = c.put_parted-e in
    omega (arith, c.requires, x.ensures.place, x.auto.out, y.ensures.place, y.auto.out, z.ensures.place, z.auto.out, decimal-short a.number, decimal-short a.place)

pub overflow_add-result : goal.overflow_add-result
overflow_add-result c = let h : c.put_parted-e.result < length c.put_parted-e.new.out = bounds-out-e c in search rules
