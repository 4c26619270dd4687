-- `offers_join::spans` meets its contract: the loop has the spans of the edges below k. Assumes nothing.
use Rattle.offers_join.specs.Joins.{SegmentWords}
use Rattle.offers_join.proofs.spans.Given as goal

abbrev pub invariant-loop-k : goal.invariant-loop-k
invariant-loop-k l = SegmentWords l.lo l.hi l.k l.edges l.wanted
