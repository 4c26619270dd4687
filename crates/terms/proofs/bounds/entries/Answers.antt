-- `entries`: the count, where the slice is long enough. Assumes nothing.
use native.Mathlib.Omega.{arith}
use Rattle.terms.proofs.BoundLaws.{count-read, too_short}
use Rattle.terms.proofs.bounds.entries.Goals as goal

pub returns-then-x-n : goal.returns-then-x-n
returns-then-x-n c =
    let a = c.args in
    record {
      few = omega arith;
      inside = λ p. absurd (omega (arith, p));
      counted = λ p. absurd (too_short a.x.now _ c.wide-n.ensures.0 c.if-x-n.true p);
    }

pub returns : goal.returns
returns c =
    let a = c.args in
    record {
      few = c.wide-n.ensures.1;
      inside = λ p. c.if-x-n.false;
      counted = λ p. count-read a.x.now _ c.wide-n.ensures.0;
    }
