-- `has_count`: a control edge that leaves an initial node or an action. Assumes nothing.
use mathlib.Core.Path.{ap, ◌∙◌}
use native.Mathlib.Omega.{arith}
use Rattle.paper.specs.Lists.{within}
use Rattle.paper.specs.Table.{kind}
use Rattle.table.proofs.Reading.{read-spans, source-node}
use Rattle.marking.proofs.Laws.{counted_by_kind}
use Rattle.marking.proofs.reading.has_count.Goals as goal

pub source-requires : goal.source-requires
source-requires c = (read-spans c.args.t.now c.requires.0, c.requires.1)

pub kind-k-requires : goal.kind-k-requires
kind-k-requires c =
    let a = c.args in
    let p = c.requires in
    (read-spans a.t.now p.0, omega (arith, source-node a.t.now p.0 a.j p.1, c.source.ensures))

pub returns : goal.returns
returns c =
    let t = c.args.t.now in
    c.within.ensures
    ∙ ap (within 1 2) (c.kind-k.ensures.0 ∙ ap (kind t) c.source.ensures.0)
    ∙ counted_by_kind t c.requires.0 c.args.j c.requires.1
