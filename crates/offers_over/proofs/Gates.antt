-- An offer held to a gate. Assumes nothing.
use Prim.Native.Nat.{ℕ}
use mathlib.Core.Path.{◌≡◌}
use mathlib.Core.Bool.{Bool, true, false}
use mathlib.Core.List.{[], ◌∷◌}
use mathlib.Core.Option.{Option}
use Rattle.paper.specs.Offers.{Offer, value}
use Rattle.offers_over.specs.Over.{let_over}

module _ (lets : Option ℕ → Bool) (x : Offer) where
  pub barred : lets (value x) ≡ false → let_over lets (x ∷ []) ≡ []
  barred h = rw h

  pub let_through : lets (value x) ≡ true → let_over lets (x ∷ []) ≡ x ∷ []
  let_through h = rw h
