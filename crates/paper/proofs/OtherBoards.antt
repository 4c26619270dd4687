-- A board by other offers, or by another order of ends, than today's: rows 1 to 8 over both, and today's board as one of them. The definitions as they were
-- before a wish stand on it. Assumes nothing.
use mathlib.Core.Path.{◌≡◌, refl}
use Prim.Native.Nat.{ℕ}
use mathlib.Core.Bool.{Bool, not, ◌&&◌}
use mathlib.Core.List.{List}
use mathlib.Core.Option.{Option}
use lib.Dec.{leb}
use lib.ListN.{length}
use Rattle.paper.specs.Lists.{all}
use Rattle.paper.specs.Answers.{Answer, good, ◌>>=◌, need, known}
use Rattle.paper.specs.Limits.{limits}
use Rattle.paper.specs.Table.{table_fine}
use Rattle.paper.specs.Marking.{Marking, marking}
use Rattle.paper.specs.Offers.{Offer, paths, guards_fine, bounds_fine, Terms, goes_over, offers, ends, sizes_fine}
use Rattle.paper.specs.Choices.{Board, board_of, board}

-- the offers of a table in a marking, by what goes over its edges; and the ends among offers, in order
abbrev pub OffersBy : Type 0
OffersBy = List ℕ → (ℕ → Option ℕ → Bool) → Marking → List Offer

abbrev pub EndsBy : Type 0
EndsBy = List ℕ → List Offer → List Offer

unfoldable pub sizes_fine_by : EndsBy → List ℕ → List Offer → Bool
sizes_fine_by endsOf t os =
    leb (length os) limits.most_offers && all (λ o. leb (length (paths o)) limits.most_paths) os
    && leb (length (endsOf t os)) limits.most_ends

unfoldable pub board_of_by : OffersBy → EndsBy → List ℕ → Marking → Terms → Answer Board
board_of_by offersOf endsOf t m w = do
  _ ← need 6 (not m.ended)
  _ ← need 7 (guards_fine t w.guards)
  _ ← need 18 (bounds_fine t w.bounds)
  let os = offersOf t (goes_over w) m
  _ ← need 8 (sizes_fine_by endsOf t os)
  good (record { table = t; current = m; all_offers = os; all_ends = endsOf t os })

unfoldable pub board_by : OffersBy → EndsBy → List ℕ → List ℕ → Terms → Answer Board
board_by offersOf endsOf t b w = do
  _ ← table_fine t limits
  m ← known 5 (marking t b)
  board_of_by offersOf endsOf t m w

-- today's, by today's offers and order
pub board_by_is : (t b : List ℕ) (w : Terms) → board t b w ≡ board_by offers ends t b w
unfolding board board_by board_of board_of_by sizes_fine sizes_fine_by
board_by_is t b w = refl
