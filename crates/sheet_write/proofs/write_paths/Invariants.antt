-- `write_paths` stores the paths of an end as one run. The invariant: those passed are stored, and the next starts where they end. Assumes nothing.
use Prim.Native.Nat.{◌+◌}
use mathlib.Core.Path.{◌≡◌}
use lib.Seq.{sets}
use Rattle.paper.specs.Lists.{below, gather}
use Rattle.wire.specs.Totals.{total}
use Rattle.sheet_write.specs.Listing.{path_of, path_takes}
use Rattle.sheet_write.proofs.write_paths.Given as goal

abbrev pub invariant-loop-j : goal.invariant-loop-j
invariant-loop-j l = (l.to ≡ l.start + total (path_takes l.order l.lens l.k) l.j) × (l.out ≡ sets l.initial.out l.start (gather (path_of l.order l.lens l.cells l.k) (below l.j)))
