-- `parted_fork`: words, then marks, then the lowest mark. Assumes nothing.
use mathlib.Core.Path.{◌∙◌, ap}
use Rattle.paper.specs.Lists.{lowest}
use Rattle.paper.specs.Limits.{limits}
use Rattle.table.proofs.Reading.{blank}
use Rattle.choice_judge.specs.Judging.{parted_at, forks_in}
use Rattle.choice_judge.proofs.parted_fork.Goals as goal

pub returns : goal.returns
unfolding forks_in
returns c = let a = c.args in
    let q = parted_at a.node.now a.parents.now a.rows a.w a.t.now in
    let f = c.fill_passed.ensures (blank limits.most_nodes) in
    c.lowest_marked.ensures q (c.mark_parted.ensures f (blank limits.most_nodes)) ∙ ap (lowest q) c.requires.0.nodes-read
