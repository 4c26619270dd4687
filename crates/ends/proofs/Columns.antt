-- Parts of a list of offers. Assumes nothing.
use mathlib.Core.List.{List}
use Prim.Native.Nat.{ℕ, ◌≤◌}
use native.Mathlib.Omega.{arith}
use Rattle.offers.specs.Rows.{Ranges}

-- those of a list of c offers are parts of a longer one
pub ranges_more : (a b : List ℕ) (c d : ℕ) → c ≤ d → Ranges a b c → Ranges a b d
ranges_more a b c d l r j = ((r j).0, omega (arith, (r j).1))
