-- `put_value` goes by the flag. Assumes nothing.
use native.Mathlib.Omega.{arith}
use Rattle.sheet_numbers.proofs.Writing.{wrote_as}
use Rattle.sheet_numbers.proofs.Decimals.{decimal-short}
use Rattle.sheet_text.proofs.Showing.{value_none, value-some}
use Rattle.sheet_text.proofs.put_value.Goals as goal

pub returns-then-s-p-eq0 : goal.returns-then-s-p-eq0
returns-then-s-p-eq0 c = let a = c.args in
    let w = c.put.ensures in
    (wrote_as w (value_none a.s.now a.p c.if-s-p-eq0.true), omega (arith, w.place))

pub put_parted-requires : goal.put_parted-requires
put_parted-requires c = omega (arith, decimal-short c.read32.result)

pub returns : goal.returns
returns c = let a = c.args in
    let w = c.put_parted.ensures in
    (wrote_as w (value-some a.s.now a.p c.read32.result c.if-s-p-eq0.false c.read32.ensures), omega (arith, w.place, decimal-short c.read32.result))
