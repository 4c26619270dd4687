-- `is_apart`: the invariant says that the ends before those left have no rivals in the set. Assumes nothing.
use mathlib.Core.Path.{sym, ◌∙◌}
use native.Mathlib.Omega.{arith}
use Rattle.pick_bounds.proofs.Pruning.{parted-more, parted-all, apart-not}
use Rattle.pick_bounds.proofs.Sets.{less_left}
use borrow.Author.Rules.{rules}
use Rattle.pick_bounds.proofs.is_apart.Goals as goal

pub returns-then-is_rivalled : goal.returns-then-is_rivalled
returns-then-is_rivalled c = let a = c.args in
    sym (apart-not a.net.now a.c c.first_of-k.result (sym c.is_rivalled.ensures ∙ c.if-is_rivalled.true) (c.loop-left.invariant.inside _ c.first_of-k.ensures.1))

pub loop-left-smaller : goal.loop-left-smaller
loop-left-smaller c = less_left c.loop-left.left c.first_of-k.result c.without-left.result (search rules) c.first_of-k.ensures.1 (rw (sym c.end_of.ensures) c.without-left.ensures)

pub loop-left-preserved : goal.loop-left-preserved
loop-left-preserved c = let a = c.args in
    parted-more a.net.now a.c c.loop-left.left c.first_of-k.result c.without-left.result c.loop-left.invariant (sym c.is_rivalled.ensures ∙ c.if-is_rivalled.false) (rw (sym c.end_of.ensures) c.without-left.ensures)

pub returns : goal.returns
returns c = let a = c.args in sym (parted-all a.net.now a.c c.loop-left.left (omega (arith, c.loop-left-test.false)) c.loop-left.invariant)
