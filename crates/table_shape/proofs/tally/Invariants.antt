-- `tally` counts each edge at both ends. The invariant: each cell counts the edges passed that hit it. Assumes nothing.
use mathlib.Core.Path.{◌≡◌}
use Prim.Native.Nat.{ℕ, ◌≤◌, ◌-◌}
use lib.ListN.{length}
use Rattle.paper.specs.Lists.{at, below, count}
use Rattle.paper.specs.Table.{edges}
use Rattle.table_shape.proofs.Laws.{hits}
use Rattle.table_shape.proofs.tally.Given as goal

abbrev pub invariant-loop-j : goal.invariant-loop-j
invariant-loop-j l = (length l.cells ≡ length l.initial.cells) × ((x : ℕ) → at l.cells x ≡ count (hits l.s x) (below l.j))
