-- `put_node` stores four bytes where the table type says that the node starts.
use native.Mathlib.Omega.{arith}
use mathlib.Core.List.{[]}
use Rattle.limits.proofs.building.put_node.Goals as goal

pub write16-requires : goal.write16-requires
write16-requires c = omega (arith, c.node_at-at.ensures [])

pub overflow_add-at : goal.overflow_add-at
overflow_add-at c = omega (arith, c.node_at-at.ensures [])

pub write16-requires-2 : goal.write16-requires-2
write16-requires-2 c = omega (arith, c.node_at-at.ensures [])
