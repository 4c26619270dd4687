-- `settled`: the pins, and an ended marking's fields. Assumes nothing.
use Prim.Native.Nat.{ℕ}
use mathlib.Core.Path.{sym, ap, subst, ◌∙◌}
use Rattle.paper.specs.Lists.{all, below}
use Rattle.table.proofs.Reading.{read-spans}
use Rattle.marking.specs.Reading.{EdgesRead, edge_clear}
use Rattle.marking.proofs.Laws.{pins_not, live-fine, nodes-not, edges_say}
use Rattle.marking.proofs.reading.settled.Goals as goal

pub returns-then-not-pins_fine : goal.returns-then-not-pins_fine
returns-then-not-pins_fine c = λ m b f n k e. sym (pins_not c.args.t.now m (sym (c.pins_fine.ensures m b f n) ∙ c.if-not-pins_fine.true))

pub returns-then-not-ended : goal.returns-then-not-ended
returns-then-not-ended c = λ m b f n k e. sym (live-fine c.args.t.now m (sym (c.pins_fine.ensures m b f n) ∙ c.if-not-pins_fine.false) (e ∙ c.if-not-ended.true))

pub returns-then-not-nodes_clear : goal.returns-then-not-nodes_clear
returns-then-not-nodes_clear c = λ m b f n k e. sym (nodes-not c.args.t.now m (sym (c.pins_fine.ensures m b f n) ∙ c.if-not-pins_fine.false) (e ∙ c.if-not-ended.false)
    (sym (c.nodes_clear.ensures m b f n) ∙ c.if-not-nodes_clear.true))

pub returns : goal.returns
returns c = let t = c.args.t.now in
    let edges_are = (read-spans t c.requires.0).edges-read in
    λ m b f n k e.
    c.edges_clear.ensures t m (subst (EdgesRead t m c.args.tokens.now) (sym edges_are) k) ∙ ap (λ (x : ℕ). all (edge_clear t m) (below x)) edges_are
    ∙ sym (edges_say t m (sym (c.pins_fine.ensures m b f n) ∙ c.if-not-pins_fine.false) (e ∙ c.if-not-ended.false)
    (sym (c.nodes_clear.ensures m b f n) ∙ c.if-not-nodes_clear.false))
