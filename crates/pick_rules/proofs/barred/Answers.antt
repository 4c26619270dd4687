-- `pick_rules::barred` meets its contract: what is barred at edges, and at nodes. Assumes nothing.
use Rattle.table.proofs.Reading.{read-spans}
use Rattle.pick_rules.proofs.Destinations.{bars_kept_all}
use Rattle.pick_rules.proofs.barred.Goals as goal

pub returns : goal.returns
returns c = λ edge target home stock n m.
    let r = read-spans _ c.requires.0 in
    bars_kept_all c.args.t.now edge target home c.args.runs.now stock r.edges-read r.nodes-read
    (c.barred_at_edges.ensures edge target home n m) (c.barred_at_nodes.ensures _ edge target home stock n m)
