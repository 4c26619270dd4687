-- `list_all`: what the rules lack, what is wanted, and what both set off. Assumes nothing.
use Rattle.pick_bounds.specs.Bounds.{good}
use Rattle.pick_demands.proofs.Demands.{asks-wanted}
use Rattle.pick_demands.proofs.list_all.Goals as goal

pub returns : goal.returns
returns c = let a = c.args in
    let free = c.without-open in
    let lacked = c.lacked in
    let direct = c.list_direct-direct in
    let note = c.note-count in
    let roused = c.list_roused in
    (roused.ensures.0, roused.ensures.1 a.want (note.ensures.1 (good a.net.now a.want) a.b direct.ensures.1 (asks-wanted a.net.now a.want a.b lacked.result free.result lacked.ensures free.ensures)))
