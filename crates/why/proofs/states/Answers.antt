-- `states`: pick's search, a node that doesn't exist, or the search in the level's net. Assumes nothing.
use mathlib.Core.Path.{◌≡◌}
use Prim.Native.Nat.{suc, ◌+◌}
use native.Mathlib.Nat.{pow-suc}
use native.Mathlib.Omega.{arith}
use lib.Pow.{pow_pos}
use Rattle.table.proofs.Reading.{blank}
use Rattle.why.proofs.states.Goals as goal

pub returns-then-table-wide : goal.returns-then-table-wide
returns-then-table-wide c = let n = c.args.ends.count in let e : n + 22 ≡ suc (n + 21) = omega arith in (omega arith, rw (e, pow-suc 2 (n + 21)) (omega (arith, pow_pos (n + 21))))

pub prepare-asked-requires : goal.prepare-asked-requires
prepare-asked-requires c = let h = c.requires in (h.0, h.1, h.2, h.3, omega (arith, c.wide.ensures.0, c.if-table-wide.false), blank 440, omega arith)
