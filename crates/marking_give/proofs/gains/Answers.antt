-- `gains`: a source that fires, and a count. Assumes nothing.
use native.Mathlib.Omega.{arith}
use Rattle.table.proofs.Reading.{read-spans, source-node}
use Rattle.marking_give.proofs.GainLaws.{gains_count}
use Rattle.marking_give.proofs.gains.Goals as goal

pub source-requires : goal.source-requires
source-requires c = (read-spans c.args.t.now c.requires.0, c.requires.1)

pub fires-requires : goal.fires-requires
fires-requires c = let t = c.args.t.now in
    (read-spans t c.requires.0, omega (arith, c.source.ensures.0, source-node t c.requires.0 c.args.j c.requires.1))

pub returns-then-fires : goal.returns-then-fires
returns-then-fires c = let a = c.args in
    let f = read-spans a.t.now c.requires.0 in
    gains_count a.t.now a.j a.firing (omega (arith, f.edges-read, c.requires.1)) c.source.ensures.0
    c.fires.ensures c.if-fires.true c.has_count.ensures
