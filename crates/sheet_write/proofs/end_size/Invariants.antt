-- `end_size` adds up what the paths take. Assumes nothing.
use Prim.Native.Nat.{◌+◌, ◌*◌, ◌≤◌}
use mathlib.Core.Path.{◌≡◌}
use Rattle.wire.specs.Totals.{total}
use Rattle.sheet_write.specs.Listing.{path_takes}
use Rattle.sheet_write.proofs.end_size.Given as goal

abbrev pub invariant-loop-j : goal.invariant-loop-j
invariant-loop-j l = (l.taken ≡ 7 + total (path_takes l.order l.lens l.k) l.j) × (l.taken ≤ 7 + 256 * l.j)
