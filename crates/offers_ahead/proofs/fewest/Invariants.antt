-- `offers_ahead::fewest` meets its contract: the best edge so far is open. Assumes nothing.
use Rattle.std.specs.Prelude.{IfSome}
use Rattle.offers_ahead.specs.Dead.{Open}
use Rattle.offers_ahead.proofs.fewest.Given as goal

abbrev pub invariant-loop-k : goal.invariant-loop-k
invariant-loop-k l = IfSome l.best (λ k. Open l.from l.to l.served k)
