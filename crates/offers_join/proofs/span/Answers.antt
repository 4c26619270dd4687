-- `offers_join::span` meets its contract: the loop has the numbers from a to i. Assumes nothing.
use mathlib.Core.Path.{sym, subst}
use Prim.Native.Nat.{◌+◌}
use native.Mathlib.Omega.{arith}
use lib.Bits.{bit_or}
use Rattle.offers_join.specs.Joins.{Span}
use Rattle.offers_join.proofs.Words.{span_more}
use Rattle.offers_join.proofs.span.Goals as goal

pub loop-i-init : goal.loop-i-init
loop-i-init c = λ k la lb. absurd (omega arith)

pub loop-i-preserved : goal.loop-i-preserved
loop-i-preserved c =
    let l = c.loop-i in
    subst (λ z. Span c.args.a (l.i + 1) (bit_or l.d z)) (sym c.bit_of-d.ensures) (span_more c.args.a l.i l.d l.invariant)

pub returns : goal.returns
returns c = λ k la lb. c.loop-i.invariant k la (omega arith)
