-- `second_value`: four bytes on, if that is a place. Assumes nothing.
use mathlib.Core.Path.{sym}
use native.Mathlib.Omega.{arith}
use borrow.Author.Tests.{lt-ltb, le-ltb}
use Rattle.step_spend.proofs.second_value.Goals as goal

pub returns-then-from-ge65532 : goal.returns-then-from-ge65532
returns-then-from-ge65532 c = sym (rw (le-ltb c.args.from 65532 (omega (arith, c.if-from-ge65532.true))))

pub returns : goal.returns
returns c = sym (rw (lt-ltb c.args.from 65532 (omega (arith, c.if-from-ge65532.false))))
