-- `look`: what is listed is asked for, and is more than can be had. Assumes nothing.
use Rattle.pick_demands.proofs.look.Goals as goal
use Rattle.pick_demands.proofs.look.Goals.{then-is_crowded-via-then-is_crowded, then-is_crowded-via-else-is_crowded+then-is_overdrawn}

pub returns-then-is_crowded : goal.returns-then-is_crowded
returns-then-is_crowded c = let a = c.args in
    let listed = c.list_all-count.ensures.1 in
    λ e.
    elim c.then-is_crowded.branch [
      | then-is_crowded-via-then-is_crowded w ↦ c.is_crowded.ensures w.if-is_crowded.true a.want a.b listed
      | then-is_crowded-via-else-is_crowded+then-is_overdrawn w ↦ w.is_overdrawn.ensures w.if-is_overdrawn.true a.want listed
    ]
