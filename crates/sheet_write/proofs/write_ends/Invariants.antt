-- `write_ends` stores the ends as one run. The invariant: those passed are stored, and the next starts where they end. Assumes nothing.
use Prim.Native.Nat.{◌+◌}
use mathlib.Core.Path.{◌≡◌}
use lib.Seq.{sets}
use Rattle.paper.specs.Lists.{below, gather}
use Rattle.wire.specs.Totals.{total}
use Rattle.sheet_write.specs.Listing.{end_takes, end_shown}
use Rattle.sheet_write.proofs.write_ends.Given as goal

abbrev pub invariant-loop-k : goal.invariant-loop-k
invariant-loop-k l = (l.to ≡ 4 + total (end_takes l.rows l.ends l.order l.lens) l.k) × (l.out ≡ sets l.initial.out 4 (gather (end_shown l.rows l.ends l.order l.lens l.cells) (below l.k)))
