-- `pick_wanted::owned` meets its contract: the marks of two columns together. Assumes nothing.
use Rattle.choice_masks.proofs.Masking.{marks_or}
use Rattle.pick_wanted.proofs.owned.Goals as goal

pub returns : goal.returns
returns c = marks_or c.same.ensures c.same-2.ensures
