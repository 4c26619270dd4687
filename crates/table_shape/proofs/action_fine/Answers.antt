-- `action_fine` by the node's control edges and its mark. Assumes nothing.
use borrow.Author.Tests.{le-leb, lt-leb}
use Rattle.paper.specs.Table.{is_control, into}
use Rattle.paper.proofs.Members.{any-count}
use Rattle.paper.proofs.Bytes.{flag_back}
use Rattle.table_shape.proofs.action_fine.Goals as goal

pub returns-then-d-ge1 : goal.returns-then-d-ge1
returns-then-d-ge1 c = λ t i h f. rw (any-count (is_control t) (into t i), ← h.control_in, le-leb _ _ c.if-d-ge1.true)

pub returns-else-d-ge1 : goal.returns-else-d-ge1
returns-else-d-ge1 c = λ t i h f. rw (any-count (is_control t) (into t i), ← h.control_in, lt-leb _ _ c.if-d-ge1.false, f) (flag_back _)
