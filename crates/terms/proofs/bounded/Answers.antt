-- `bounded`: the entry that the edge has or hasn't. Assumes nothing.
use Rattle.paper.proofs.BoundsLists.{bounds-good}
use Rattle.terms.proofs.TermLaws.{unlisted_gate, listed_gate}
use Rattle.terms.proofs.bounded.Goals as goal

pub returns-in_default : goal.returns-in_default
returns-in_default c = λ t g goes y o. unlisted_gate y c.args.e o (c.in_default.ensures.1 t (bounds-good t c.args.x.now y.fine))

pub returns : goal.returns
returns c = λ t g goes y o.
    listed_gate y c.args.e o c.in-Some.k (c.in-Some.ensures.1 t (bounds-good t c.args.x.now y.fine)) _ _ c.low_high-low.ensures.0 c.low_high-low.ensures.1
