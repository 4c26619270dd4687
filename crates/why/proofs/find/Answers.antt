-- `find`: pick's choice at the last level, else the first set that passes the level's net. Assumes nothing.
use Prim.Native.Nat.{suc}
use native.Mathlib.Omega.{arith}
use Rattle.paper.specs.Operations.{levels}
use Rattle.paper.specs.Choices.{how_many}
use Rattle.table.proofs.Reading.{nodes_most, blank}
use Rattle.why.proofs.Asked.{level_answered, last_answered}
use Rattle.why.proofs.find.Goals as goal

pub choose-requires : goal.choose-requires
choose-requires c = let h = c.requires in (h.0, h.1, h.2, h.3)

pub returns-then-k-gt3 : goal.returns-then-k-gt3
returns-then-k-gt3 c = λ l d s.
    let p = c.requires in
    last_answered s c.args.node (λ e. omega (arith, e, p.4, nodes_most _ p.0)) c.args.k l c.if-k-gt3.true c.choose.result (c.choose.ensures d s)

pub prepare-asked-requires : goal.prepare-asked-requires
prepare-asked-requires c = let h = c.requires in (h.0, h.1, h.2, h.3, h.4, blank 440, omega arith)

pub returns : goal.returns
returns c = λ l d s. let a = c.args in
    level_answered (levels d a.node) a.ends.count (how_many d) (suc a.k) s.seated.number _ (c.prepare-asked.ensures.1 (omega (arith, c.if-k-gt3.false)) d s) c.first.result c.first.ensures
