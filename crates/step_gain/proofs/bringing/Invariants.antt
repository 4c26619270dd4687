-- `bringing`: one end after the other. The invariant: the word has those passed that are taken and have a value. Assumes nothing.
use mathlib.Core.Bool.{not, ◌&&◌}
use lib.Dec.{eqb}
use Rattle.paper.specs.Lists.{at, has}
use Rattle.offers.specs.Sets.{Marks}
use Rattle.step_gain.proofs.bringing.Given as goal

abbrev pub invariant-loop-k : goal.invariant-loop-k
invariant-loop-k l = Marks (λ j. has l.c j && not (eqb (at l.valued (at l.row j)) 0)) l.k l.w
