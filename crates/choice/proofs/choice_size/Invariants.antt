-- `choice_size` counts the taken ends. Assumes nothing.
use Prim.Native.Nat.{◌≤◌}
use mathlib.Core.Path.{◌≡◌}
use lib.ListN.{length}
use Rattle.choice.specs.Choice.{numbers}
use Rattle.choice.proofs.choice_size.Given as goal

abbrev pub invariant-loop-k : goal.invariant-loop-k
invariant-loop-k l = (l.many ≤ l.k) × (l.many ≡ length (numbers l.c l.k))
