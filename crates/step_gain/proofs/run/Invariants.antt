-- `run`: one node after the other. Assumes nothing.
use mathlib.Core.Bool.{◌&&◌}
use Rattle.paper.specs.Table.{kind as kind_of, is_action}
use Rattle.words.specs.Marks.{is_marked}
use Rattle.step_gain.specs.Gains.{Started}
use Rattle.step_gain.proofs.run.Given as goal

abbrev pub invariant-loop-i : goal.invariant-loop-i
invariant-loop-i l = Started (λ i. is_action (kind_of l.t i) && is_marked l.touched i) l.initial.runs l.runs l.i
