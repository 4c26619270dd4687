-- `offers_join::barred` meets its contract: the loop has marked the rows below j that the gate doesn't let over. Assumes nothing.
use mathlib.Core.Bool.{not}
use Rattle.offers.specs.Sets.{Marks}
use Rattle.offers.specs.Rows.{cell, value_of}
use Rattle.offers_over.specs.Over.{admitted}
use Rattle.offers_join.proofs.barred.Given as goal

abbrev pub invariant-loop-j : goal.invariant-loop-j
invariant-loop-j l = Marks (λ x. not (admitted l.gate (value_of (cell l.rows x 2) (cell l.rows x 3)))) l.j l.d
