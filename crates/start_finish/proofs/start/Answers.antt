-- `start`: nothing is held, and what is delivered is the reply. Assumes nothing.
use Rattle.marking_held.proofs.HeldLaws.{nothing_lengths}
use Rattle.start_finish.proofs.StartLaws.{start_ready, start-leaves}
use Rattle.start_finish.proofs.start.Goals as goal

pub deliver-requires : goal.deliver-requires
deliver-requires c = (c.requires, nothing_lengths, start_ready c.args.t.now c.args.values.now c.args.table c.requires)

pub returns : goal.returns
returns c = let a = c.args in
    let d = c.deliver in
    (start-leaves a.t.now a.values.now a.table c.requires _ a.out.now d.new.out d.ensures.0, d.ensures.1)
