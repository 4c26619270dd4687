-- `fill_masks`: one end after the other. The invariant: the words mark the ends below k. Assumes nothing.
use mathlib.Core.Path.{◌≡◌}
use Prim.Native.Nat.{◌≤◌, ◌-◌}
use lib.ListN.{length}
use Rattle.choice_masks.specs.Masks.{Masked}
use Rattle.choice_masks.proofs.fill_masks.Given as goal

abbrev pub invariant-loop-k : goal.invariant-loop-k
invariant-loop-k l = Masked l.column l.k l.masks
