-- `prepare`: the net, and what is wanted of it. Assumes nothing.
use Rattle.pick_rules.proofs.Picking.{roomy, sought}
use Rattle.pick.proofs.prepare.Goals as goal

pub returns : goal.returns
returns c =
    let f = c.fill-rules in
    (f.ensures.0, λ d s. sought s f.new.net f.result _ c.wanted.result (f.ensures.1 (roomy s)) c.wanted.ensures)
