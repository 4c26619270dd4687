-- `offers_join::span` meets its contract: the loop has the numbers from a to i. Assumes nothing.
use Rattle.offers_join.specs.Joins.{Span}
use Rattle.offers_join.proofs.span.Given as goal

abbrev pub invariant-loop-i : goal.invariant-loop-i
invariant-loop-i l = Span l.a l.i l.d
