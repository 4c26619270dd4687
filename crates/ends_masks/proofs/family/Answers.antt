-- `ends_masks::family` meets its contract: the test of each number is the one that is promised. Assumes nothing.
use Prim.Native.Nat.{ℕ}
use borrow.Author.Rules.{rules}
use Rattle.ends_masks.specs.Seating.{siblings}
use Rattle.ends_masks.proofs.family.Goals as goal

pub returns : goal.returns
returns c = c.passing.ensures (λ (y : ℕ). siblings c.args.node.now c.args.parents.now y c.args.z) (λ k on l e. search rules)
