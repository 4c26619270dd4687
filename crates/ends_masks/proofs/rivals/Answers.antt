-- `ends_masks::rivals` meets its contract: the test of each number is the one that is promised. Assumes nothing.
use native.Mathlib.Omega.{arith}
use borrow.Author.Rules.{rules}
use Rattle.ends_masks.specs.Seating.{rival}
use Rattle.ends_masks.proofs.Masks.{marks_fit}
use Rattle.ends_masks.proofs.rivals.Goals as goal

pub returns : goal.returns
returns c = c.passing.ensures (rival c.args.foes.now c.args.makers.now c.args.k) (λ k on l e. search rules)

pub overflow_cast-result : goal.overflow_cast-result
overflow_cast-result c = let f = marks_fit (c.passing.ensures (rival c.args.foes.now c.args.makers.now c.args.k) (λ k on l e. search rules)) (omega arith) in search rules
