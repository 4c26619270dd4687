-- `pick_rules::bound` meets its contract: no set has more of the ends in `only` than there are. Assumes nothing.
use Prim.Native.Nat.{◌≤◌}
use native.Mathlib.Omega.{arith}
use Rattle.pick_bounds.specs.Net.{held}
use Rattle.pick_rules.proofs.Rows.{bound_free}
use Rattle.pick_rules.proofs.bound.Goals as goal

pub returns-then-held-hi : goal.returns-then-held-hi
returns-then-held-hi c = λ m when lo x l.
    let a = c.args in
    let few : held 32 a.only a.only ≤ a.hi = omega (arith, c.held.ensures, c.if-held-hi.true) in
    bound_free m when a.only lo a.hi x l few
