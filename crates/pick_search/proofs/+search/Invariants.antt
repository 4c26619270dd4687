-- `search`: the measure is how many ends are open. Assumes nothing.
use Rattle.pick_search.proofs.+search.Given as goal

abbrev pub decreases-search : goal.decreases-search
decreases-search l = l.left
