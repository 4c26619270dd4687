-- `offers_join::spans` meets its contract: the loop has the spans of the edges below k. Assumes nothing.
use mathlib.Core.Path.{subst}
use native.Mathlib.Omega.{arith}
use lib.ListN.{get_or}
use Rattle.offers_join.specs.Joins.{Span}
use Rattle.offers_join.proofs.Words.{spans-set}
use Rattle.offers_join.proofs.spans.Goals as goal

pub loop-k-init : goal.loop-k-init
loop-k-init c = λ k l. absurd (omega arith)

pub span-s-requires : goal.span-s-requires
span-s-requires c = let l = c.loop-k in omega (arith, c.wide-in-loop-k.ensures, (c.requires.1.1 l.k (omega arith)).1)

pub loop-k-preserved : goal.loop-k-preserved
loop-k-preserved c =
    let l = c.loop-k in
    let a = c.args in
    spans-set a.lo.now a.hi.now l.k l.edges l.wanted c.span-s.result (omega arith) l.invariant
    (subst (λ z. Span z (get_or a.hi.now l.k 0) c.span-s.result) c.wide.ensures.0 (subst (λ z. Span c.wide.result z c.span-s.result) c.wide-in-loop-k.ensures.0 c.span-s.ensures))

pub returns : goal.returns
returns c = λ k l. c.loop-k.invariant k (omega arith)
