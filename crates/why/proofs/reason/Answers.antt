-- `reason`: none named, no such node, or the first empty level. Assumes nothing.
use native.Mathlib.Omega.{arith}
use Rattle.table.proofs.Reading.{read-spans}
use Rattle.why.proofs.Asked.{none-named_0, missing_1, named_reason}
use Rattle.why.proofs.reason.Goals as goal

pub returns-then-node-eq-NO_ONE : goal.returns-then-node-eq-NO_ONE
returns-then-node-eq-NO_ONE c = λ d s. none-named_0 d c.args.node c.if-node-eq-NO_ONE.true

pub returns-then-table-wide : goal.returns-then-table-wide
returns-then-table-wide c = λ d s.
    let p = c.requires in
    missing_1 s c.args.node c.if-node-eq-NO_ONE.false (omega (arith, (read-spans _ p.0).nodes-read, c.wide.ensures.0, c.if-table-wide.true))

pub climb-requires : goal.climb-requires
climb-requires c = let p = c.requires in (p.0, p.1, p.2, p.3, omega (arith, c.wide.ensures.0, c.if-table-wide.false))

pub returns : goal.returns
returns c = λ d s.
    named_reason s c.args.node c.if-node-eq-NO_ONE.false c.climb.result (c.climb.ensures d s)
