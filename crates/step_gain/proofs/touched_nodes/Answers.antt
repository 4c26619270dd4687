-- `touched_nodes`: the marks of two columns, on a blank array. Assumes nothing.
use mathlib.Core.Path.{ap, ◌∙◌}
use mathlib.Core.Bool.{false}
use native.Mathlib.Omega.{arith}
use Rattle.paper.specs.Lists.{at, has, one_if}
use Rattle.paper.specs.Limits.{limits}
use Rattle.words.specs.Marks.{placed}
use Rattle.table.proofs.Reading.{blank}
use Rattle.step_gain.proofs.Touching.{touched_served}
use Rattle.step_gain.proofs.touched_nodes.Goals as goal

pub returns : goal.returns
returns c = let a = c.args in
    let one = c.mark_column.ensures (λ i. false) limits.most_nodes (omega arith)
    (record { tell = λ i l. blank limits.most_nodes i }) in
    let both = c.mark_column-2.ensures (placed (has a.c) (at a.target.now) a.n) limits.most_nodes
    (omega (arith, c.mark_column.auto)) one in
    record { tell = λ i l. both.tell i l ∙ ap one_if (touched_served a.target.now a.home.now a.n a.c i) }
