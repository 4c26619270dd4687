-- `clear_edges`: one edge after the other. Assumes nothing.
use Rattle.marking_held.specs.Filling.{Filled}
use Rattle.step_close.proofs.clear_edges.Given as goal

abbrev pub invariant-loop-j : goal.invariant-loop-j
invariant-loop-j l = Filled (λ j. 0) l.initial.tokens l.tokens l.j
