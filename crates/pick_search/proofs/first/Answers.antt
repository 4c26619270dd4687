-- `first`: what the search through all sets finds is the first that passes. Assumes nothing.
use Rattle.pick_bounds.specs.Net.{net_of}
use Rattle.pick_search.proofs.Searching.{answers_found}
use Rattle.pick_search.proofs.first.Goals as goal

pub returns : goal.returns
returns c = let a = c.args in
    rw c.ok.ensures.value (answers_found (net_of a.net.now a.want) a.m c.requires.1 c.search_all.result.found c.search_all.ensures.0)
