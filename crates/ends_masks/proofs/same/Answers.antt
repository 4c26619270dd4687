-- `ends_masks::same` meets its contract: the test of each number is the one that is promised. Assumes nothing.
use Prim.Native.Nat.{ℕ}
use native.Mathlib.Omega.{arith}
use borrow.Author.Rules.{rules}
use lib.Dec.{eqb}
use Rattle.paper.specs.Lists.{at}
use Rattle.ends_masks.proofs.Masks.{marks_fit}
use Rattle.ends_masks.proofs.same.Goals as goal

pub returns : goal.returns
returns c = c.passing.ensures (λ (k : ℕ). eqb (at c.args.column.now k) c.args.x) (λ k on l e. search rules)

pub overflow_cast-result : goal.overflow_cast-result
overflow_cast-result c = let f = marks_fit (c.passing.ensures (λ (k : ℕ). eqb (at c.args.column.now k) c.args.x) (λ k on l e. search rules)) (omega arith) in search rules
