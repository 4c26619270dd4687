-- Where the table type says that an edge starts, as a number: its promise is on the tables of so many nodes, and there is one. Assumes nothing.
use Prim.Native.Nat.{ℕ, ◌+◌, ◌*◌}
use mathlib.Core.Path.{◌≡◌, refl}
use mathlib.Core.List.{List, [], ◌∷◌}
use Rattle.paper.specs.Table.{nodes, edge_at}

pub edge-place : (n j r : ℕ) → ((t : List ℕ) → n ≡ nodes t → r ≡ edge_at t j) → r ≡ 5 + 4 * n + 4 * j
unfolding nodes
edge-place n j r f = f (0 ∷ 0 ∷ 0 ∷ n ∷ []) refl
