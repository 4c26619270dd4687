-- `climb`: at the levels gone through some are left. Assumes nothing.
use Rattle.paper.specs.Choices.{how_many}
use Rattle.paper.specs.Operations.{levels, SomeLeft}
use Rattle.why.specs.Reasons.{OnBoard}
use Rattle.why.proofs.climb.Given as goal

abbrev pub invariant-loop-k : goal.invariant-loop-k
invariant-loop-k l = OnBoard l.t l.offers l.ends l.kept (λ d. SomeLeft (levels d l.node) (how_many d) l.k)
