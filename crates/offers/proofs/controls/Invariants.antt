-- `offers::controls` meets its contract: the loop has marked the rows below j that have no value. Assumes nothing.
use Rattle.offers.specs.Rows.{rows_in, Controls}
use Rattle.offers.proofs.controls.Given as goal

abbrev pub invariant-loop-j : goal.invariant-loop-j
invariant-loop-j l = Controls (rows_in l.rows l.count) l.j l.d
