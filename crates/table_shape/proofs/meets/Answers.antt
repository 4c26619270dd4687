-- `meets` by the degrees of the node. Assumes nothing.
use native.Mathlib.Omega.{arith}
use Rattle.table_shape.proofs.Laws.{in_degree, out_degree}
use Rattle.table_shape.proofs.meets.Goals as goal

pub returns-then-degree-ge1 : goal.returns-then-degree-ge1
returns-then-degree-ge1 c = λ t i h. rw (← in_degree t i c.args.d h, ← out_degree t i c.args.d h) (grind arith)

pub returns-else-degree-ge1 : goal.returns-else-degree-ge1
returns-else-degree-ge1 c = λ t i h. rw (← in_degree t i c.args.d h, ← out_degree t i c.args.d h) (grind arith)
