-- `offers_join::incoming` meets its contract: the loop goes through the list of the incoming edges, and stops where an edge can't be served. Assumes nothing.
use mathlib.Core.Path.{sym, ap, ◌∙◌, subst}
use native.Mathlib.Omega.{arith}
use lib.ListN.{get_or}
use borrow.Author.Rules.{rules}
use Rattle.table.specs.Incoming.{ListFrom}
use Rattle.offers_join.proofs.Words.{listing_none, listing_more, listing_many, listing_bare, listing_empty, listing_served}
use Rattle.offers_join.proofs.incoming.Goals as goal

pub loop-j-init : goal.loop-j-init
loop-j-init c =
    let a = c.args in
    let e = c.wide-j.ensures.0 ∙ ap (λ z. get_or a.first.now z 0) c.wide.ensures.0 in
    (search rules, λ js h. listing_none (subst (λ z. ListFrom a.next.now z js) (sym e) h))

pub returns-then-d-ge-MOST_OFFERS : goal.returns-then-d-ge-MOST_OFFERS
returns-then-d-ge-MOST_OFFERS c = λ js h. listing_many (c.loop-j.invariant.1 js h) c.loop-j-test.true c.if-d-ge-MOST_OFFERS.true

pub returns-then-d-eq0 : goal.returns-then-d-eq0
returns-then-d-eq0 c = λ js h. listing_empty (c.loop-j.invariant.1 js h) (omega (arith, c.loop-j-test.false)) c.if-d-eq0.true

pub returns : goal.returns
returns c =
    let l = c.loop-j in
    λ js h. listing_served (l.invariant.1 js h) (omega (arith, c.loop-j-test.false)) (omega (arith, c.if-d-eq0.false)) l.invariant.0

pub returns-then-to-j : goal.returns-then-to-j
returns-then-to-j c = λ js h. listing_bare (c.loop-j.invariant.1 js h) c.loop-j-test.true c.if-to-j.true

pub loop-j-smaller : goal.loop-j-smaller
loop-j-smaller c =
    omega (arith, c.loop-j-test.true, c.requires.0.forward c.loop-j.j c.loop-j-test.true, c.wide-j-in-loop-j.ensures.0)

pub loop-j-preserved : goal.loop-j-preserved
loop-j-preserved c =
    let l = c.loop-j in
    let room = c.requires.1.1 in
    let few = c.if-d-ge-MOST_OFFERS.false in (
      omega (arith, few),
      λ js h. listing_more (l.invariant.1 js h) c.loop-j-test.true (omega (arith, few, room.0)) (omega (arith, few, room.1)) c.wide-j-in-loop-j.ensures.0,
    )
