-- `pin_fine`: an input pin is empty or holds its lower, as its action's running byte says. Assumes nothing.
use Prim.Native.Nat.{◌<◌}
use mathlib.Core.Path.{◌≡◌, ap₂, sym, ap, ◌∙◌}
use mathlib.Core.Bool.{true, false}
use native.Mathlib.Omega.{arith}
use borrow.Author.Tests.{ne_eqb}
use lib.Dec.{eqb, leb}
use Rattle.paper.specs.Lists.{at}
use Rattle.paper.specs.Table.{nodes, kind, owner, is_object_node, is_input, is_action}
use Rattle.paper.specs.Marking.{blank}
use Rattle.table.specs.Reading.{Spans}
use Rattle.table.proofs.Reading.{read-good, read-spans}
use Rattle.marking.proofs.Laws.{no_pin, pin_runs, pin_idle, pin_owner}
use Rattle.marking.proofs.reading.pin_fine.Goals as goal

pub kind-requires : goal.kind-requires
kind-requires c =
    let spans : Spans c.args.t.now c.args.table = read-spans c.args.t.now c.requires.0 in
    (spans, c.requires.1)

pub returns-then-kind-ne-INPUT : goal.returns-then-kind-ne-INPUT
returns-then-kind-ne-INPUT c = let a = c.args in
    λ m b f n. sym (no_pin a.t.now m a.p (ne_eqb _ 3 (λ e. c.if-kind-ne-INPUT.true (c.kind.ensures.0 ∙ e))))

pub owner-a-requires : goal.owner-a-requires
owner-a-requires c =
    let spans : Spans c.args.t.now c.args.table = read-spans c.args.t.now c.requires.0 in
    (spans, c.requires.1)

pub bounds-kept-a : goal.bounds-kept-a
bounds-kept-a c =
    let spans : Spans c.args.t.now c.args.table = read-spans c.args.t.now c.requires.0 in
    let is-input : kind c.args.t.now c.args.p ≡ 3 = sym c.kind.ensures.0 ∙ c.if-kind-ne-INPUT.false in
    let is-node : c.args.p < nodes c.args.t.now = let s = spans in omega arith in
    let owned : (owner c.args.t.now c.args.p < nodes c.args.t.now) × (is_action (kind c.args.t.now (owner c.args.t.now c.args.p)) ≡ true) =
    pin_owner c.args.t.now (blank false) c.args.p (ap is_input is-input) ((read-good c.args.t.now c.requires.0).node c.args.p is-node) in
    let s = spans in
    omega (arith, owned.0, c.owner-a.ensures.0)

pub lower-requires : goal.lower-requires
lower-requires c =
    let spans : Spans c.args.t.now c.args.table = read-spans c.args.t.now c.requires.0 in
    (spans, c.requires.1)

pub returns-then-kept-a-eq1 : goal.returns-then-kept-a-eq1
returns-then-kept-a-eq1 c =
    let spans : Spans c.args.t.now c.args.table = read-spans c.args.t.now c.requires.0 in
    let is-input : kind c.args.t.now c.args.p ≡ 3 = sym c.kind.ensures.0 ∙ c.if-kind-ne-INPUT.false in
    let is-node : c.args.p < nodes c.args.t.now = let s = spans in omega arith in
    let owned : (owner c.args.t.now c.args.p < nodes c.args.t.now) × (is_action (kind c.args.t.now (owner c.args.t.now c.args.p)) ≡ true) =
    pin_owner c.args.t.now (blank false) c.args.p (ap is_input is-input) ((read-good c.args.t.now c.requires.0).node c.args.p is-node) in
    let a = c.args in
    λ m b f n.
    let held = n.node a.p is-node in
    let kept = at a.kept.now in
    let r = ap kept c.owner-a.ensures.0 ∙ (n.node (owner a.t.now a.p) owned.0).runs owned.1 in
    let o = ap is_object_node is-input in
    ap₂ leb c.lower.ensures.0 (c.wide.ensures.0 ∙ (held.stock o).many)
    ∙ sym (pin_runs a.t.now m a.p (ap is_input is-input) _ r c.if-kept-a-eq1.true (held.room o))

pub returns : goal.returns
returns c =
    let spans : Spans c.args.t.now c.args.table = read-spans c.args.t.now c.requires.0 in
    let is-input : kind c.args.t.now c.args.p ≡ 3 = sym c.kind.ensures.0 ∙ c.if-kind-ne-INPUT.false in
    let is-node : c.args.p < nodes c.args.t.now = let s = spans in omega arith in
    let owned : (owner c.args.t.now c.args.p < nodes c.args.t.now) × (is_action (kind c.args.t.now (owner c.args.t.now c.args.p)) ≡ true) =
    pin_owner c.args.t.now (blank false) c.args.p (ap is_input is-input) ((read-good c.args.t.now c.requires.0).node c.args.p is-node) in
    let a = c.args in
    λ m b f n.
    let kept = at a.kept.now in
    let r = ap kept c.owner-a.ensures.0 ∙ (n.node (owner a.t.now a.p) owned.0).runs owned.1 in
    ap (λ x. eqb x 0) ((n.node a.p is-node).stock (ap is_object_node is-input)).many
    ∙ sym (pin_idle a.t.now m a.p (ap is_input is-input) _ r c.if-kept-a-eq1.false)
