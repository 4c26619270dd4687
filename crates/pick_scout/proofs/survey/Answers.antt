-- `survey`: a set in view, or what a scout finds. Assumes nothing.
use Rattle.pick_bounds.specs.Bounds.{good}
use Rattle.pick_scout.proofs.Scouting.{scouts_alive}
use Rattle.pick_scout.proofs.survey.Goals as goal

pub returns-then-is_in_view : goal.returns-then-is_in_view
returns-then-is_in_view c = let a = c.args in rw c.at_once.ensures (scouts_alive (good a.net.now a.want) a.m a.b _)
