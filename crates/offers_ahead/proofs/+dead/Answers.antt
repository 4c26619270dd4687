-- `offers_ahead::dead` meets its contract: by recursion on depth; the loop has tried the offers below i of edge k. Assumes nothing.
use Rattle.std.proofs.Common.{bit_or, arith}
use Rattle.offers_ahead.proofs.Laws.{tried_all, dead_drop}
use Rattle.offers_ahead.proofs.+dead.Goals as goal

pub returns : goal.returns
returns t c = λ z.
    let l = c.loop-i in
    let a = c.args in
    let k = c.in-Some.k in
    let x = c.idle.result in
    dead_drop a.rivals.now a.edges.now a.count a.from a.to a.served x a.blocked
    (tried_all a.rivals.now a.edges.now a.count a.from a.to (bit_or a.served x) c.bit_of.result a.blocked k l.i
    c.in-Some.ensures c.bit_of.ensures (omega (arith, c.loop-i-test.false)) l.invariant)
