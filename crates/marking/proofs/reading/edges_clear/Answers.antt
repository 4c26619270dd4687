-- `edges_clear`: every count of an ended marking is 0, one after the other. Assumes nothing.
use mathlib.Core.Path.{sym, ◌∙◌}
use native.Mathlib.Omega.{arith}
use borrow.Author.Count.{below_more}
use borrow.Author.Tests.{eq-eqb, ne_eqb}
use Rattle.marking.specs.Reading.{edge_clear}
use Rattle.paper.proofs.Lists.{below_all, all_fails}
use Rattle.marking.proofs.Laws.{edge-clear-is}
use Rattle.marking.proofs.reading.edges_clear.Goals as goal

pub returns-then-tokens-j-ne0 : goal.returns-then-tokens-j-ne0
returns-then-tokens-j-ne0 c = let l = c.loop-j in
    λ t m h. sym (all_fails (edge_clear t m) c.args.n l.j (omega arith) (edge-clear-is t m l.j _ (h.edge l.j (omega arith)) ∙ ne_eqb _ 0 c.if-tokens-j-ne0.true))

pub loop-j-preserved : goal.loop-j-preserved
loop-j-preserved c = let l = c.loop-j in
    λ t m h. below_more _ _ (l.invariant t m h) (edge-clear-is t m l.j _ (h.edge l.j (omega arith)) ∙ eq-eqb _ 0 c.if-tokens-j-ne0.false)

pub returns : goal.returns
returns c = let n = c.args.n in
    λ t m h. sym (below_all (edge_clear t m) n (λ k l. c.loop-j.invariant t m h k (omega arith)))
