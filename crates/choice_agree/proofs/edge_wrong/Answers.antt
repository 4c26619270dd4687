-- `edge_wrong`: its action starts, and not one end is taken on it. Assumes nothing.
use mathlib.Core.Path.{ap, ◌∙◌}
use mathlib.Core.Bool.{not}
use Prim.Native.Nat.{ℕ}
use lib.Dec.{eqb}
use Rattle.words.specs.Marks.{is_marked}
use Rattle.choice_agree.specs.Agreeing.{took, edge_wrong}
use Rattle.choice_agree.proofs.Masks.{stops, goes_on}
use Rattle.choice_agree.proofs.edge_wrong.Goals as goal

pub returns-then-not-is_marked : goal.returns-then-not-is_marked
unfolding edge_wrong
returns-then-not-is_marked c = let a = c.args in
    stops (c.is_marked.ensures ∙ ap (is_marked a.starting.now) c.target.ensures.0) (not (eqb (took a.by_edge.now a.c a.e) 1)) c.if-not-is_marked.true

pub returns : goal.returns
unfolding edge_wrong
returns c = let a = c.args in
    ap (λ (x : ℕ). not (eqb x 1)) c.taken_of.ensures.0
    ∙ goes_on (c.is_marked.ensures ∙ ap (is_marked a.starting.now) c.target.ensures.0) (not (eqb (took a.by_edge.now a.c a.e) 1)) c.if-not-is_marked.false
