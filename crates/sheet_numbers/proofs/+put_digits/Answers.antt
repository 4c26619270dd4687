-- `put_digits`, the digits before the last one first. Assumes nothing.
use Rattle.std.proofs.Common.{rules, arith, length, ◌<◌}
use Rattle.sheet_numbers.proofs.Decimals.{wrote_no_digit, wrote_digit, wrote_digits, one_digit, one_more}
use Rattle.sheet_numbers.proofs.+put_digits.Goals as goal

pub returns-then-n-eq0 : goal.returns-then-n-eq0
returns-then-n-eq0 t c = let a = c.args in wrote_no_digit a.out.now a.to a.n a.v c.if-n-eq0.true

pub bounds-out-to : goal.bounds-out-to
bounds-out-to t c = let a = c.args in omega (arith, c.requires, one_digit a.n a.v c.if-n-eq0.false c.if-v-lt10.true)

pub returns-then-v-lt10 : goal.returns-then-v-lt10
returns-then-v-lt10 t c = let a = c.args in wrote_digit a.out.now a.to a.n a.v c.if-n-eq0.false c.if-v-lt10.true

pub put_digits-next-requires : goal.put_digits-next-requires
put_digits-next-requires t c = let a = c.args in (omega (arith, c.if-n-eq0.false, c.decreases), omega (arith, c.requires, one_more a.n a.v c.if-n-eq0.false c.if-v-lt10.false))

pub bounds-out-next : goal.bounds-out-next
bounds-out-next t c = let a = c.args in
    let w = c.put_digits-next in
    omega (arith, c.requires, one_more a.n a.v c.if-n-eq0.false c.if-v-lt10.false, w.ensures.place, w.auto.out)

pub overflow_add-result-2 : goal.overflow_add-result-2
overflow_add-result-2 t c = let a = c.args in
    let w = c.put_digits-next in
    let h : w.result < length w.new.out = bounds-out-next t c in search rules

pub returns : goal.returns
returns t c = let a = c.args in wrote_digits a.out.now a.to a.n a.v c.if-n-eq0.false c.if-v-lt10.false c.put_digits-next.ensures
