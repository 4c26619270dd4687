-- The definitions without bounds lists, as they were before wish 1 but for what later wishes moved, kept here alone, and: with count 0 all four answers, of board, sheet,
-- pick and step, are theirs. Assumes nothing.
use mathlib.Core.Path.{◌≡◌, refl, sym, ap, ◌∙◌, subst}
use Prim.Native.Nat.{ℕ, zero, suc}
use mathlib.Core.Bool.{Bool, not}
use mathlib.Core.List.{List}
use mathlib.Core.Option.{Option, none, some}
use lib.Dec.{eqb}
use Rattle.paper.specs.Lists.{at, below, keep}
use Rattle.paper.specs.Answers.{Answer, good, ◌>>=◌, need, known}
use Rattle.paper.specs.Limits.{limits}
use Rattle.paper.specs.Table.{edges, source, into, table_fine}
use Rattle.paper.specs.Marking.{Marking, encode, marking}
use Rattle.paper.specs.Offers.{value, handed, guards_fine, bounds_count, in_bounds, no_bounds, terms, goes_over, offers_on, offers, ends, sizes_fine}
use Rattle.paper.specs.Choices.{Board, board_of, board}
use Rattle.paper.specs.Operations.{sheet_bytes, sheet, PickIf, Pick, step_of, step}
use Rattle.paper.proofs.Members.{keep-alike, each-alike, gather-alike}
use Rattle.paper.proofs.Fuel.{handed-each}
use Rattle.paper.proofs.BoundsLists.{no_bounds-fine}

-- ---- the definitions before
goes_over_before : List ℕ → ℕ → Option ℕ → Bool
goes_over_before g e v = eqb (at g e) 1

board_of_before : List ℕ → Marking → List ℕ → Answer Board
board_of_before t m g = do
  _ ← need 6 (not m.ended)
  _ ← need 7 (guards_fine t g)
  let os = offers t (goes_over_before g) m
  _ ← need 8 (sizes_fine t os)
  good (record { table = t; current = m; all_offers = os; all_ends = ends t os })

pub board_before : List ℕ → List ℕ → List ℕ → Answer Board
board_before t b g = do
  _ ← table_fine t limits
  m ← known 5 (marking t b)
  board_of_before t m g

pub sheet_before : List ℕ → List ℕ → List ℕ → Answer (List ℕ)
sheet_before t b g = do
  d ← board_before t b g
  good (sheet_bytes d.all_ends)

pub PickBefore : List ℕ → List ℕ → List ℕ → ℕ → Answer (List ℕ) → Type 0
PickBefore t b g n a = PickIf (board_before t b g) n a

pub step_before : List ℕ → List ℕ → List ℕ → List ℕ → Answer (List ℕ)
step_before t b g ks = do
  d ← board_before t b g
  m ← step_of d ks
  good (encode t m)

-- ---- gates that agree make the same offers
module _ (t : List ℕ) (m : Marking) (goes was : ℕ → Option ℕ → Bool) (same : (e : ℕ) (v : Option ℕ) → goes e v ≡ was e v) where
  on-same_gates : (n e : ℕ) → offers_on t goes m n e ≡ offers_on t was m n e
  unfolding offers_on
  on-same_gates zero e = refl
  on-same_gates (suc n) e =
      keep-alike (λ o. goes e (value o)) (λ o. was e (value o)) (handed t m (offers_on t goes m n) e) (λ o k. same e (value o))
      ∙ ap (keep (λ o. was e (value o)))
      (handed-each t m e (offers_on t goes m n) (offers_on t was m n) (each-alike (offers_on t goes m n) (offers_on t was m n) (into t (source t e)) (λ j k. on-same_gates n j)))

  pub offers-same_gates : offers t goes m ≡ offers t was m
  unfolding offers
  offers-same_gates =
      gather-alike (offers_on t goes m limits.longest_path) (offers_on t was m limits.longest_path) (below (edges t)) (λ e k. on-same_gates limits.longest_path e)

-- ---- with no bounds
module _ (g : List ℕ) where
  no_bounds-goes : (e : ℕ) (v : Option ℕ) → goes_over (terms g no_bounds) e v ≡ goes_over_before g e v
  unfolding goes_over in_bounds bounds_count goes_over_before
  no_bounds-goes e none = mathlib.Core.Bool.and-true (eqb (at g e) 1)
  no_bounds-goes e (some v) = mathlib.Core.Bool.and-true (eqb (at g e) 1)

  module _ (t : List ℕ) where
    board-of-before : (m : Marking) → board_of t m (terms g no_bounds) ≡ board_of_before t m g
    unfolding board_of board_of_before
    board-of-before m = rw (no_bounds-fine t, offers-same_gates t m (goes_over (terms g no_bounds)) (goes_over_before g) no_bounds-goes)

    module _ (b : List ℕ) where
      pub board_as_before : board t b (terms g no_bounds) ≡ board_before t b g
      unfolding board board_before
      board_as_before = by (table_fine t limits) (marking t b)
        where
          by : (a : Answer (Unit {0})) (o : Option Marking)
              → a >>= (λ u. known 5 o >>= (λ m. board_of t m (terms g no_bounds))) ≡ a >>= (λ u. known 5 o >>= (λ m. board_of_before t m g))
          by (Rattle.paper.specs.Answers.refused n p) o = refl
          by (good u) none = refl
          by (good u) (some m) = board-of-before m

      pub sheet_as_before : sheet t b (terms g no_bounds) ≡ sheet_before t b g
      unfolding sheet sheet_before
      sheet_as_before = rw board_as_before

      -- each way: what pick may answer
      pub pick_as_before : (n : ℕ) (a : Answer (List ℕ)) → Pick t b (terms g no_bounds) n a → PickBefore t b g n a
      unfolding Pick PickBefore
      pick_as_before n a h = subst (λ (r : Answer Board). PickIf r n a) board_as_before h

      pub pick_still : (n : ℕ) (a : Answer (List ℕ)) → PickBefore t b g n a → Pick t b (terms g no_bounds) n a
      unfolding Pick PickBefore
      pick_still n a h = subst (λ (r : Answer Board). PickIf r n a) (sym board_as_before) h

      pub step_as_before : (ks : List ℕ) → step t b (terms g no_bounds) ks ≡ step_before t b g ks
      unfolding step step_before
      step_as_before ks = rw board_as_before
