-- `pick_rules::add` meets its contract: a rule that binds nothing says nothing, another is one row more. Assumes nothing.
use mathlib.Core.Path.{sym, ◌∙◌}
use native.Mathlib.Omega.{arith}
use lib.ListN.{length-set}
use borrow.Author.Rules.{rules}
use Rattle.pick_rules.proofs.Rows.{added_none, added_same, added_row}
use Rattle.pick_rules.proofs.add.Goals as goal

pub returns-then-is_idle : goal.returns-then-is_idle
returns-then-is_idle c = λ m l. let a = c.args.new in added_none (λ x. sym (c.bound-most.ensures m a.when a.lo x l) ∙ c.is_idle.ensures c.if-is_idle.true m x l)

pub bounds-net-j-2 : goal.bounds-net-j-2
bounds-net-j-2 c = simp length-set (omega arith)

pub bounds-net-j-3 : goal.bounds-net-j-3
bounds-net-j-3 c = simp length-set (omega arith)

pub bounds-net-j-4 : goal.bounds-net-j-4
bounds-net-j-4 c = simp length-set (omega arith)

pub returns : goal.returns
returns c = λ m l.
    let a = c.args in
    let n = a.new in
    added_same (λ x. c.bound-most.ensures m n.when n.lo x l) (added_row a.net.now a.k n.when n.only n.lo c.bound-most.result (search rules) m)
