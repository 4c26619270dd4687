-- `offers::clashes` meets its contract: the loop has marked the rows below j that clash. Assumes nothing.
use Rattle.offers.specs.Rows.{rows_in, Hits}
use Rattle.offers.proofs.clashes.Given as goal

abbrev pub invariant-loop-j : goal.invariant-loop-j
invariant-loop-j l = Hits (rows_in l.rows l.count) l.n l.k l.a l.c l.j l.d
