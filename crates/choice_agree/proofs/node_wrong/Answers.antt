-- `node_wrong`: starts and runs, or is a store without room. Assumes nothing.
use mathlib.Core.Path.{◌≡◌, sym, ap, ap₂, ◌∙◌}
use mathlib.Core.Bool.{Bool, false, not, ◌&&◌, ◌||◌}
use Prim.Native.Nat.{ℕ, ◌+◌}
use lib.Dec.{ltb, eqb}
use borrow.Author.Tests.{eq-eqb, ne_eqb}
use Rattle.paper.proofs.Bools.{and_never}
use Rattle.paper.specs.Lists.{at}
use Rattle.paper.specs.Table.{is_buffer, is_outgoing}
use Rattle.words.specs.Marks.{is_marked}
use Rattle.choice_agree.proofs.Unfit.{node-runs, node_other, node-room}
use Rattle.choice_agree.proofs.node_wrong.Goals as goal
use Rattle.choice_agree.proofs.node_wrong.Goals.{else-is_marked-via-then-is_marked+else-kept-i-ne0, else-is_marked-via-else-is_marked}

pub returns-then-kept-i-ne0 : goal.returns-then-kept-i-ne0
returns-then-kept-i-ne0 c = let a = c.args in
    sym (node-runs a.t.now (is_marked a.starting.now) a.c a.by_target.now a.i a.kept.now a.kept.now (sym c.is_marked.ensures ∙ c.if-is_marked.true) (ap not (ne_eqb _ 0 c.if-kept-i-ne0.true)))

pub returns-then-not-is_store : goal.returns-then-not-is_store
returns-then-not-is_store c =
    let calm : let a = c.args in is_marked a.starting.now a.i && not (eqb (at a.kept.now a.i) 0) ≡ false =
    let a = c.args in
    let s = is_marked a.starting.now a.i in
    let r = not (eqb (at a.kept.now a.i) 0) in
    elim c.else-is_marked.branch [
      | else-is_marked-via-then-is_marked+else-kept-i-ne0 w ↦ ap (λ (b : Bool). s && b) (ap not (eq-eqb _ 0 w.if-kept-i-ne0.false)) ∙ and_never s
      | else-is_marked-via-else-is_marked w ↦ ap (λ (b : Bool). b && r) (sym c.is_marked.ensures ∙ w.if-is_marked.false)
    ] in
    let a = c.args in
    let k = c.is_store.ensures ∙ ap (λ (x : ℕ). is_buffer x || is_outgoing x) c.kind.ensures.0 in
    sym (node_other a.t.now (is_marked a.starting.now) a.c a.by_target.now a.i a.kept.now a.kept.now (calm) (sym k ∙ c.if-not-is_store.true))

pub returns : goal.returns
returns c =
    let calm : let a = c.args in is_marked a.starting.now a.i && not (eqb (at a.kept.now a.i) 0) ≡ false =
    let a = c.args in
    let s = is_marked a.starting.now a.i in
    let r = not (eqb (at a.kept.now a.i) 0) in
    elim c.else-is_marked.branch [
      | else-is_marked-via-then-is_marked+else-kept-i-ne0 w ↦ ap (λ (b : Bool). s && b) (ap not (eq-eqb _ 0 w.if-kept-i-ne0.false)) ∙ and_never s
      | else-is_marked-via-else-is_marked w ↦ ap (λ (b : Bool). b && r) (sym c.is_marked.ensures ∙ w.if-is_marked.false)
    ] in
    let a = c.args in
    let k = c.is_store.ensures ∙ ap (λ (x : ℕ). is_buffer x || is_outgoing x) c.kind.ensures.0 in
    ap₂ (λ (x y : ℕ). ltb x y) c.upper.ensures.0 (ap₂ (λ (x y : ℕ). x + y) c.wide.ensures.0 c.taken_of.ensures.0)
    ∙ sym (node-room a.t.now (is_marked a.starting.now) a.c a.by_target.now a.i a.kept.now a.kept.now (calm) (sym k ∙ c.if-not-is_store.false))
