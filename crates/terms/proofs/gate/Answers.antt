-- `gate`: the guard's byte; and no entry in a list that is too short for one, or what the entries say. Assumes nothing.
use Rattle.terms.proofs.TermLaws.{closed_gate, short_gate}
use Rattle.terms.proofs.gate.Goals as goal

pub returns-then-g-e-ne1 : goal.returns-then-g-e-ne1
returns-then-g-e-ne1 c = λ t goes y. closed_gate y c.args.e c.if-g-e-ne1.true

pub returns-then-x-lt-ONE_ENTRY : goal.returns-then-x-lt-ONE_ENTRY
returns-then-x-lt-ONE_ENTRY c = λ t goes y. short_gate y c.args.e c.if-g-e-ne1.false c.if-x-lt-ONE_ENTRY.true

pub returns : goal.returns
returns c = λ t goes y. c.bounded.ensures t c.args.g.now goes y c.if-g-e-ne1.false
