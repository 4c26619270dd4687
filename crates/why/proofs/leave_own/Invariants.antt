-- `leave_own`: the entries below k were gone through, the others stand as they were. Assumes nothing.
use Rattle.why.proofs.Own.{SoFar}
use Rattle.why.proofs.leave_own.Given as goal

abbrev pub invariant-loop-k : goal.invariant-loop-k
invariant-loop-k l = SoFar l.initial.column l.home l.own l.column l.k
