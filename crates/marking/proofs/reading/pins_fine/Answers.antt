-- `pins_fine`: every input pin, one after the other. Assumes nothing.
use mathlib.Core.Path.{sym, ◌∙◌}
use native.Mathlib.Omega.{arith}
use Rattle.paper.specs.Table.{nodes}
use Rattle.paper.specs.Marking.{pin_fine}
use Rattle.paper.proofs.Lists.{below_all, all_fails}
use Rattle.table.proofs.Reading.{read-spans}
use Rattle.marking.proofs.reading.pins_fine.Goals as goal

pub returns-then-not-pin_fine : goal.returns-then-not-pin_fine
returns-then-not-pin_fine c = let t = c.args.t.now in
    let n = read-spans t c.requires.0 in
    λ m b f h. sym (all_fails (pin_fine t m) (nodes t) c.loop-p.p (omega arith) (sym (c.pin_fine.ensures m b f h) ∙ c.if-not-pin_fine.true))

pub returns : goal.returns
returns c = let t = c.args.t.now in
    let n = read-spans t c.requires.0 in
    λ m b f h. sym (below_all (pin_fine t m) (nodes t) (λ k l. c.loop-p.invariant m b f h k (omega arith)))
