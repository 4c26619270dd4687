-- `ends::add_rows` meets its contract: the loop has put the rows from a to i, each with the key. Assumes nothing.
use Prim.Native.Nat.{◌-◌}
use Rattle.ends.specs.Slots.{Added}
use Rattle.ends.proofs.add_rows.Given as goal

abbrev pub invariant-loop-i : goal.invariant-loop-i
invariant-loop-i l = Added l.initial.found l.found l.initial.keys l.keys l.n l.a (l.i - l.a) l.key
