-- `pick_rules::fork_rule` meets its contract: the rule says that row z is kept, if it leaves a fork. Assumes nothing.
use mathlib.Core.Path.{sym, ap, ◌∙◌}
use Prim.Native.Nat.{◌≤◌, ◌<◌}
use native.Mathlib.Omega.{arith}
use borrow.Author.Rules.{rules}
use Rattle.paper.specs.Lists.{at}
use Rattle.paper.specs.Table.{kind, nodes}
use Rattle.table.proofs.Reading.{read-spans}
use Rattle.pick_rules.proofs.Kept.{fork_says, fork_past, fork_other}
use Rattle.pick_rules.proofs.fork_rule.Goals as goal

pub returns-then-table-i : goal.returns-then-table-i
returns-then-table-i c =
    let a = c.args in
    let s = read-spans _ c.requires.0 in
    let l : nodes a.t.now ≤ at a.node.now a.z = omega (arith, c.wide-i.ensures.0, s.nodes-read, c.if-table-i.true) in
    λ x. c.no_rule.ensures a.n x ∙ sym (fork_past a.t.now a.node.now a.parents.now a.makers.now a.rows a.n a.z x l)

pub kind-requires : goal.kind-requires
kind-requires c = (read-spans _ c.requires.0, search rules)

pub returns-then-kind-ne-FORK : goal.returns-then-kind-ne-FORK
returns-then-kind-ne-FORK c =
    let a = c.args in
    let s = read-spans _ c.requires.0 in
    let e = c.wide-i.ensures.0 in
    let l : at a.node.now a.z < nodes a.t.now = omega (arith, e, s.nodes-read, c.if-table-i.false) in
    λ x.
    c.no_rule-then-kind-ne-FORK.ensures a.n x
    ∙ sym (fork_other a.t.now a.node.now a.parents.now a.makers.now a.rows a.n a.z x l
    (λ f. c.if-kind-ne-FORK.true (c.kind.ensures.0 ∙ ap (kind a.t.now) e ∙ f)))

pub returns : goal.returns
returns c =
    let a = c.args in
    let p = c.requires in
    let s = read-spans _ p.0 in
    let e = c.wide-i.ensures.0 in
    let l : at a.node.now a.z < nodes a.t.now = omega (arith, e, s.nodes-read, c.if-table-i.false) in
    λ x.
    fork_says a.t.now a.node.now a.parents.now a.makers.now a.rows a.n a.z x _ _ _ l
    (sym (ap (kind a.t.now) e) ∙ sym c.kind.ensures.0 ∙ c.if-kind-ne-FORK.false) p.6
    c.family-family.ensures c.made-kin.ensures (rw (sym c.bit_of.ensures) c.made-own.ensures)
