-- `put_edge` stores four bytes where the table type says that the edge starts.
use native.Mathlib.Omega.{arith}
use Rattle.limits.proofs.Places.{edge-place}
use Rattle.limits.proofs.building.put_edge.Goals as goal

pub write16-requires : goal.write16-requires
write16-requires c = omega (arith, edge-place _ _ _ c.edge_at-at.ensures)

pub overflow_add-at : goal.overflow_add-at
overflow_add-at c = omega (arith, edge-place _ _ _ c.edge_at-at.ensures)

pub write16-requires-2 : goal.write16-requires-2
write16-requires-2 c = omega (arith, edge-place _ _ _ c.edge_at-at.ensures)
