-- `clear_nodes`: one node after the other; of an outgoing parameter the number of values is left as it is. Assumes nothing.
use Rattle.step_close.specs.Closing.{Emptied}
use Rattle.step_close.proofs.clear_nodes.Given as goal

abbrev pub invariant-loop-i : goal.invariant-loop-i
invariant-loop-i l = Emptied l.t l.initial.kept l.initial.more l.initial.runs l.kept l.more l.runs l.i
