-- `alike_in_rules`: the invariant says that the rules before i tell none of `same` from end k. Assumes nothing.
use Rattle.pick_twins.proofs.Telling.{ByRule, Before}
use Rattle.pick_twins.proofs.alike_in_rules.Given as goal

abbrev pub invariant-loop-i : goal.invariant-loop-i
invariant-loop-i l = Before l.ends (ByRule l.net l.k) l.same l.i
