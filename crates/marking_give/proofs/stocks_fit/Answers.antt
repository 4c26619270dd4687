-- `stocks_fit`: every stock, one after the other. Assumes nothing.
use mathlib.Core.Path.{sym, ◌∙◌}
use native.Mathlib.Omega.{arith}
use lib.Dec.{leb}
use Rattle.paper.specs.Table.{nodes, upper}
use Rattle.paper.proofs.Lists.{below_all, all_fails}
use Rattle.marking_give.proofs.stocks_fit.Goals as goal

pub returns-then-not-stock_fits : goal.returns-then-not-stock_fits
returns-then-not-stock_fits c = let a = c.args in
    λ m h. sym (all_fails (λ k. leb (m k) (upper a.t.now k)) (nodes a.t.now) c.loop-i.i (omega arith) (sym (c.stock_fits.ensures m h) ∙ c.if-not-stock_fits.true))

pub returns : goal.returns
returns c = let a = c.args in
    λ m h. sym (below_all (λ k. leb (m k) (upper a.t.now k)) (nodes a.t.now) (λ k l. c.loop-i.invariant m h k (omega arith)))
