-- `idle` empties the action's input pins, one after the other. Assumes nothing.
use Rattle.marking_held.proofs.HeldLaws.{PinsEmptied}
use Rattle.marking_held.proofs.idle.Given as goal

abbrev pub invariant-loop-i : goal.invariant-loop-i
invariant-loop-i l = PinsEmptied l.t l.a l.initial.kept l.kept l.i
