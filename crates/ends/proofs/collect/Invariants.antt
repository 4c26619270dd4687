-- `ends::collect` meets its contract: the loop has found the rows of the edges below e, with their keys. Assumes nothing.
use mathlib.Core.Path.{◌≡◌}
use Prim.Native.Nat.{ℕ, ◌≤◌, ◌<◌}
use Rattle.paper.specs.Lists.{at}
use Rattle.paper.specs.Limits.{limits}
use Rattle.ends_paths.specs.Blocks.{run}
use Rattle.ends.specs.Slots.{end_rows, Keyed}
use Rattle.ends.proofs.Found.{Rising}
use Rattle.ends.proofs.collect.Given as goal

abbrev pub invariant-loop-e : goal.invariant-loop-e
invariant-loop-e l =
    (l.n ≤ limits.most_ends)
    × ((run (at l.found) 0 l.n ≡ end_rows l.t l.from l.to l.e) × (((s : ℕ) → s < l.n → Keyed l.t l.from l.to l.found l.keys s) × Rising l.keys l.n l.e))
