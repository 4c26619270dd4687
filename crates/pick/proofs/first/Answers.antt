-- `first`: the cells of the first rules are the net. Assumes nothing.
use Prim.Native.Nat.{◌+◌, ◌*◌}
use native.Mathlib.Nat.{sub-zero}
use Rattle.pick.proofs.Laws.{answers_holds}
use borrow.Author.Rules.{rules}
use Rattle.pick.proofs.first.Goals as goal

pub returns : goal.returns
returns c = let a = c.args in
    answers_holds a.net.now a.asked.rules (search rules) a.asked.want a.n _ (rw (sub-zero (20 + 4 * a.asked.rules)) at c.first.ensures)
