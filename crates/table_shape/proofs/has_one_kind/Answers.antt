-- `has_one_kind` by sums over both sides of the node. Assumes nothing.
use Rattle.table_shape.proofs.Laws.{one-kind}
use native.Mathlib.Omega.{arith}
use Rattle.table_shape.proofs.has_one_kind.Goals as goal

pub returns-then-wide-eq0 : goal.returns-then-wide-eq0
returns-then-wide-eq0 c = λ t i h. rw (one-kind t i c.args.d h) (grind arith)

pub returns-else-wide-eq0 : goal.returns-else-wide-eq0
returns-else-wide-eq0 c = λ t i h. rw (one-kind t i c.args.d h) (grind arith)
