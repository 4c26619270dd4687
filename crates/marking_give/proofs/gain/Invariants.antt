-- `gain`: one edge after the other, until one is full. Assumes nothing.
use Prim.Native.Nat.{ℕ, ◌<◌}
use mathlib.Core.Path.{◌≡◌}
use lib.ListN.{length}
use Rattle.paper.specs.Lists.{at}
use Rattle.marking_give.specs.Giving.{fires_as, CountsHeld}
use Rattle.marking_give.proofs.GainLaws.{GainedTo}
use Rattle.marking_give.proofs.gain.Given as goal

abbrev pub invariant-loop-j : goal.invariant-loop-j
invariant-loop-j l = (length l.tokens ≡ length l.initial.tokens)
    × ((held : ℕ → ℕ) (h : CountsHeld l.t held l.initial.tokens) (small : (k : ℕ) → at l.initial.tokens k < 256) → GainedTo l.t (fires_as l.t l.firing) held l.initial.tokens h small l.tokens l.j)
    × ((k : ℕ) → at l.initial.tokens k < 256)
