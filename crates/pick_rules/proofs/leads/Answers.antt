-- `pick_rules::leads` meets its contract: what is below digit k of a word is its remainder. Assumes nothing.
use mathlib.Core.Path.{ap, ◌∙◌}
use Prim.Native.Nat.{ℕ, ◌-◌}
use native.Mathlib.Omega.{arith}
use lib.Bits.{bit_and, and_mask}
use lib.Dec.{eqb}
use lib.Pow.{pow_pos}
use Rattle.pick_rules.proofs.leads.Goals as goal

pub overflow_sub-result : goal.overflow_sub-result
overflow_sub-result c = let p = pow_pos c.args.k in omega (arith, c.end_of.ensures)

pub returns : goal.returns
returns c = let a = c.args in ap (λ (w : ℕ). eqb (bit_and a.here (w - 1)) 0) c.end_of.ensures ∙ ap (λ (w : ℕ). eqb w 0) (and_mask a.here a.k)
