-- `edge_size` is what an edge's count takes. Assumes nothing.
use mathlib.Core.Path.{◌≡◌, refl}
use mathlib.Core.Bool.{Bool, true, false}
use mir.Val.{bool_byte}
use native.Mathlib.Omega.{arith}
use Prim.Native.Nat.{◌≤◌}
use Rattle.paper.specs.Lists.{one_if}
use Rattle.paper.specs.Marking.{counted}
use Rattle.marking_write.specs.Writing.{edge_size}
use Rattle.marking_write.proofs.edge_size.Goals as goal

one-or-none : (b : Bool) → (bool_byte b ≡ one_if b) × (bool_byte b ≤ 1)
one-or-none true = (refl, omega arith)
one-or-none false = (refl, omega arith)

pub returns : goal.returns
unfolding edge_size
returns c = rw c.has_count.ensures (one-or-none (counted c.args.t.now c.args.j))
