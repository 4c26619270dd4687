-- `node_field` reads behind the node's offset. Assumes nothing.
use native.Mathlib.Omega.{arith}
use Rattle.table.proofs.Table.node_field.Goals as goal

pub overflow_add-node_at : goal.overflow_add-node_at
overflow_add-node_at c = omega (arith, c.node_at.ensures c.args.s.now)

pub bounds-s-node_at : goal.bounds-s-node_at
bounds-s-node_at c = omega (arith, c.node_at.ensures c.args.s.now)

pub returns : goal.returns
returns c = rw (← c.node_at.ensures c.args.s.now) c.wide.ensures
