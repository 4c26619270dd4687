-- `put_head`: four numbers, one behind another. Assumes nothing.
use native.Mathlib.Omega.{arith}
use Rattle.sheet_numbers.proofs.Writing.{wrote_as, wrote_then}
use Rattle.sheet_numbers.proofs.Decimals.{byte-short}
use Rattle.sheet_text.proofs.Showing.{head-is}
use Rattle.sheet_text.proofs.put_head.Goals as goal

pub put_decimal-a-requires : goal.put_decimal-a-requires
put_decimal-a-requires c = omega (arith, c.requires, byte-short c.args.k c.requires.3)

pub put_parted-b-requires : goal.put_parted-b-requires
put_parted-b-requires c = let w = c.wide-edge in
    let x = c.put_decimal-a in
    omega (arith, c.requires, byte-short c.args.k c.requires.3, byte-short w.result w.ensures.1, x.ensures.place, x.auto)

pub returns : goal.returns
returns c = let a = c.args in
    let w = c.wide-edge in
    let g = c.target in
    let x = c.put_decimal-a.ensures in
    let y = c.put_parted-b.ensures in
    let z = c.put_parted-e.ensures in
    let v = c.put_value.ensures in (
      wrote_as (wrote_then (wrote_then (wrote_then x y) z) v.0) (head-is a.t.now a.s.now a.p a.k w.result g.result w.ensures.0 g.ensures.0),
      omega (arith, byte-short a.k c.requires.3, byte-short w.result w.ensures.1, byte-short g.result g.ensures.1, x.place, y.place, z.place, v.1),
    )

pub put_parted-e-requires : goal.put_parted-e-requires
put_parted-e-requires c = let w = c.wide-edge in
    let x = c.put_decimal-a in
    let y = c.put_parted-b in
    let g = c.target in
    omega (arith, c.requires, byte-short c.args.k c.requires.3, byte-short w.result w.ensures.1, byte-short g.result g.ensures.1, x.ensures.place, x.auto.out, y.ensures.place, y.auto.out)

pub put_value-requires : goal.put_value-requires
put_value-requires c = let w = c.wide-edge in
    let x = c.put_decimal-a in
    let y = c.put_parted-b in
    let z = c.put_parted-e in
    let g = c.target in
    (omega (arith, c.requires), omega (arith, c.requires, byte-short c.args.k c.requires.3, byte-short w.result w.ensures.1, byte-short g.result g.ensures.1, x.ensures.place, x.auto.out, y.ensures.place, y.auto.out, z.ensures.place, z.auto.out))
