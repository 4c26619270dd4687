-- `stocks_fit`: every stock, one after the other. Assumes nothing.
use Prim.Native.Nat.{ℕ, ◌<◌}
use mathlib.Core.Path.{◌≡◌}
use mathlib.Core.Bool.{true}
use lib.Dec.{leb}
use Rattle.paper.specs.Table.{upper}
use Rattle.marking_give.specs.Giving.{Amounts}
use Rattle.marking_give.proofs.stocks_fit.Given as goal

abbrev pub invariant-loop-i : goal.invariant-loop-i
invariant-loop-i l = (held : ℕ → ℕ) → Amounts l.t held l.kept l.more → (k : ℕ) → k < l.i → leb (held k) (upper l.t k) ≡ true
