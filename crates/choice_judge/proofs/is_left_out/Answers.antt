-- `is_left_out`: at a fork, not in the word, and with an offer in common with the word of its node. Assumes nothing.
use mathlib.Core.Path.{◌≡◌, sym, ap, ◌∙◌}
use mathlib.Core.Bool.{true, false, not}
use Prim.Native.Nat.{ℕ}
use native.Mathlib.Omega.{arith}
use lib.Bits.{bit_and}
use lib.Dec.{eqb}
use borrow.Author.Tests.{eq-eqb, ne_eqb}
use Rattle.paper.specs.Lists.{at}
use Rattle.paper.specs.Table.{kind as kind_of, is_fork}
use Rattle.choice_judge.proofs.Parted.{left_nowhere, left_other, left-taken, left_asked, left_word}
use Rattle.choice_judge.proofs.is_left_out.Goals as goal

pub returns-then-table-i : goal.returns-then-table-i
returns-then-table-i c = λ rows p. let a = c.args in
    sym (left_nowhere a.node.now a.parents.now rows a.w a.t.now a.z (omega (arith, c.if-table-i.true, c.wide-i.ensures.0, c.requires.0.nodes-read)))

pub returns-then-kind-ne-FORK : goal.returns-then-kind-ne-FORK
returns-then-kind-ne-FORK c = λ rows p. let a = c.args in
    let h : is_fork (kind_of a.t.now (at a.node.now a.z)) ≡ false = sym (ap is_fork (c.kind.ensures.0 ∙ ap (kind_of a.t.now) c.wide-i.ensures.0)) ∙ ne_eqb _ 10 c.if-kind-ne-FORK.true in
    sym (left_other a.node.now a.parents.now rows a.w a.t.now a.z h)

pub returns-then-in_word : goal.returns-then-in_word
returns-then-in_word c = λ rows p. let a = c.args in
    sym (left-taken a.node.now a.parents.now rows a.w a.t.now a.z (sym c.in_word.ensures ∙ c.if-in_word.true))

pub returns : goal.returns
returns c = λ rows p. let a = c.args in
    let e = c.wide-i.ensures.0 in
    let l = c.if-table-i.false in
    let h : is_fork (kind_of a.t.now (at a.node.now a.z)) ≡ true = sym (ap is_fork (c.kind.ensures.0 ∙ ap (kind_of a.t.now) e)) ∙ eq-eqb _ 10 c.if-kind-ne-FORK.false in
    ap (λ (x : ℕ). not (eqb (bit_and (at a.parents.now a.z) (at a.passed.now x)) 0)) e
    ∙ left_word a.node.now a.parents.now a.w a.passed.now rows a.z (c.type_inv.parents a.z).fits p (omega (arith, e, l))
    ∙ sym (left_asked a.node.now a.parents.now rows a.w a.t.now a.z (omega (arith, e, l, c.requires.0.nodes-read)) h (sym c.in_word.ensures ∙ c.if-in_word.false))
