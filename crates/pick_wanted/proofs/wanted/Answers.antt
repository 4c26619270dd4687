-- `pick_wanted::wanted` meets its contract: nothing, or one of the ends that belong to the node. Assumes nothing.
use mathlib.Core.Path.{sym}
use Rattle.pick_wanted.proofs.Masks.{wanted-none, wanted-some}
use Rattle.pick_wanted.proofs.wanted.Goals as goal

pub returns-then-node-eq255 : goal.returns-then-node-eq255
returns-then-node-eq255 c = λ x. let a = c.args in rw c.if-node-eq255.true (wanted-none a.target.now a.home.now a.n x)

pub returns : goal.returns
returns c = λ x.
    let a = c.args in
    wanted-some a.target.now a.home.now a.n a.node _ x c.if-node-eq255.false (rw (sym c.wide.ensures.0) c.owned.ensures)
