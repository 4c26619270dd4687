-- `size` adds up what the ends take. Assumes nothing.
use Prim.Native.Nat.{◌+◌, ◌*◌, ◌≤◌}
use mathlib.Core.Path.{◌≡◌}
use Rattle.wire.specs.Totals.{total}
use Rattle.sheet_write.specs.Listing.{most_end_size, end_takes}
use Rattle.sheet_write.proofs.size.Given as goal

abbrev pub invariant-loop-k : goal.invariant-loop-k
invariant-loop-k l = (l.taken ≡ 4 + total (end_takes l.rows l.ends l.order l.lens) l.k) × (l.taken ≤ 4 + most_end_size * l.k)
