-- `alike_in_rivals`: the invariant says that the rivals of the ends before i tell none of `same` from end k. Assumes nothing.
use Rattle.pick_twins.proofs.Telling.{ByRivals, Before}
use Rattle.pick_twins.proofs.alike_in_rivals.Given as goal

abbrev pub invariant-loop-i : goal.invariant-loop-i
invariant-loop-i l = Before l.ends (ByRivals l.net l.k) l.same l.i
