-- `share`: a demand without its other ends. Assumes nothing.
use Rattle.pick_demands.proofs.Demands.{asks-share, part-and}
use Rattle.pick_demands.proofs.share.Goals as goal

pub returns : goal.returns
returns c = let a = c.args in
    (λ p b f. rw c.held.ensures (asks-share p b a.d.ends a.d.least a.of c.without-rest.result c.without-rest.ensures f), part-and a.d.ends a.of)
