-- What a board that stands says of its ends, in the words of the stages' `requires`. Assumes nothing.
use mathlib.Core.Path.{◌≡◌}
use Prim.Native.Nat.{ℕ}
use native.Mathlib.Omega.{arith}
use mathlib.Core.List.{List}
use lib.ListN.{length}
use Rattle.paper.specs.Limits.{limits}
use Rattle.paper.specs.Choices.{Board}
use Rattle.offers.specs.declared.Offers.{Offers}
use Rattle.ends_masks.specs.declared.Ends.{Ends}
use Rattle.ends_masks.specs.Seating.{Rowed, EndsFull, Stands}

-- the ends of a board that stands are entries of the columns of offers
pub ends-rowed : {t : List ℕ} {d : Board} {o : Offers} {e : Ends} {runs stock : List ℕ} → EndsFull e → Stands t d o e runs stock
    → (column : List ℕ) → length column ≡ limits.most_offers → Rowed e.row e.count (length column)
ends-rowed f s column long =
    let z = s.seated in
    record { many = omega (arith, f.rows-full, f.few); each-inside = λ k l. omega (arith, z.inside k l, z.holds_ts.count-is, z.holds_ts.fits) }
