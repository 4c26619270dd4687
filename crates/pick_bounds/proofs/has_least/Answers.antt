-- `has_least`: none, one, or a count. Assumes nothing.
use mathlib.Core.Path.{◌≡◌, sym, ap, ◌∙◌}
use native.Mathlib.Omega.{arith}
use lib.Dec.{leb}
use Prim.Native.Nat.{ℕ}
use Rattle.pick_bounds.specs.Net.{held}
use Rattle.pick_bounds.proofs.Sets.{meets-held}
use Rattle.pick_bounds.proofs.has_least.Goals as goal

pub returns-then-lo-eq1 : goal.returns-then-lo-eq1
returns-then-lo-eq1 c = let a = c.args in
    let z : a.lo ≡ 1 = omega (arith, c.if-lo-eq1.true) in
    c.meets.ensures ∙ meets-held 32 a.c a.d ∙ ap (λ (k : ℕ). leb k (held 32 a.c a.d)) (sym z)

pub returns : goal.returns
returns c = let a = c.args in
    ap (leb a.lo) c.held.ensures
