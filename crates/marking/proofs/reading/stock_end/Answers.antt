-- `stock_end` reads a count within its limit and steps over the values. Assumes nothing.
use Prim.Native.Nat.{◌+◌}
use native.Mathlib.Omega.{arith}
use Rattle.paper.specs.Lists.{at}
use Rattle.paper.proofs.Cursor.{words_at, values-none, values-over, values_cut, values-at}
use Rattle.marking.proofs.reading.stock_end.Goals as goal

pub returns-then-b-from : goal.returns-then-b-from
returns-then-b-from c = let a = c.args in values-none a.b.now a.most a.from c.if-b-from.true

pub returns-then-most-n : goal.returns-then-most-n
returns-then-most-n c = let a = c.args in values-over a.b.now a.most a.from (omega arith) (omega (arith, c.wide-n.ensures))

pub returns-then-b-from-2 : goal.returns-then-b-from-2
returns-then-b-from-2 c = let a = c.args in
    let e = c.wide-n.ensures in
    values_cut a.b.now a.most a.from (omega arith) (omega arith) (omega arith)

pub returns : goal.returns
returns c = let a = c.args in
    let e = c.wide-n.ensures in
    (words_at a.b.now (a.from + 1) (at a.b.now a.from), rw e.0 (values-at a.b.now a.most a.from (omega arith) (omega arith) (omega arith)), omega arith)
