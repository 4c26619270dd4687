-- `scout`: the measure is how many ends it may still try. Assumes nothing.
use Rattle.pick_scout.proofs.+scout.Given as goal

abbrev pub decreases-scout : goal.decreases-scout
decreases-scout l = l.left
