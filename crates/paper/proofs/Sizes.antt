-- How long the replies are that hang on a board: at most 20 ends, each with at most 8 paths of at most 16 edges, so at most 2,864 bytes of sheet and
-- 20 of choice. Assumes nothing.
use mathlib.Core.Path.{◌≡◌, refl}
use Prim.Native.Nat.{ℕ, ◌≤◌, ◌<◌, compare}
use native.Mathlib.Omega.{arith}
use mathlib.Core.Bool.{true, ◌&&◌}
use mathlib.Core.List.{List, ◌∷◌}
use mathlib.Core.Option.{Option, none, some}
use lib.Dec.{leb}
use lib.ListN.{length, length-append}
use borrow.Author.Tests.{leb-true}
use Rattle.paper.specs.Lists.{has, below, all, gather}
use Rattle.paper.specs.Answers.{good}
use Rattle.paper.specs.Table.{edges}
use Rattle.paper.specs.Offers.{Offer, last_edge, value, paths, sorted_paths, offers, Terms, goes_over, ends, sizes_fine, lex}
use Rattle.paper.specs.Choices.{Board, board, how_many, taken}
use Rattle.paper.specs.Operations.{value_bytes, end_bytes, sheet_bytes}
use Rattle.paper.proofs.Bools.{and-true}
use Rattle.paper.proofs.Members.{In, all_in}
use Rattle.paper.proofs.Lengths.{length_from, length-keep, length-gather_most}
use Rattle.paper.proofs.Origins.{in_offers}
use Rattle.paper.proofs.Sameness.{on-last}
use Rattle.paper.proofs.Fuel.{path-short}
use Rattle.paper.proofs.Orders.{sort-length, in_sort}
use Rattle.paper.proofs.Ends.{in_ends}
use Rattle.paper.proofs.Boards.{GoodBoard, board-good}

-- ---- the ends of a board
pub record EndSizes (t : List ℕ) (o : Offer) : Type 0 where
  pub edge : last_edge o < edges t
  pub few : length (paths o) ≤ 8
  pub short : (q : List ℕ) → In q (paths o) → length q ≤ 16

module _ (t b : List ℕ) (w : Terms) (d : Board) (h : board t b w ≡ good d) where
  known : GoodBoard t b w d
  known = board-good t b w d h

  os : List Offer
  os = offers t (goes_over w) d.current

  sizes : (all (λ o. leb (length (paths o)) 8) os ≡ true) × (length (ends t os) ≤ 20)
  unfolding sizes_fine os
  sizes =
      let r = and-true (leb (length os) 64 && all (λ o. leb (length (paths o)) 8) os) (leb (length (ends t os)) 20) known.facts.sizes-fine in
      ((and-true (leb (length os) 64) (all (λ o. leb (length (paths o)) 8) os) r.0).1, leb-true _ _ r.1)

  pub few-ends : length d.all_ends ≤ 20
  unfolding os
  few-ends = rw known.facts.is-ends sizes.1

  pub end-sizes : (o : Offer) → In o d.all_ends → EndSizes t o
  unfolding os
  end-sizes o k =
      let i = (in_ends t os (rw known.facts.is-ends at k)).0 in
      let r = in_offers t (goes_over w) d.current i in
      record {
        edge = rw (on-last t (goes_over w) d.current 16 r.0 r.2) r.1;
        few = leb-true _ _ (all_in (λ o. leb (length (paths o)) 8) sizes.0 i);
        short = λ q z. path-short t (goes_over w) d.current 16 r.0 r.2 z;
      }

  -- ---- a choice
  pub choice_most : (c : ℕ) → length (taken d c) ≤ 20
  unfolding taken
  choice_most c = omega (arith, length-keep (has c) (below (how_many d)), length_from 0 (how_many d), few-ends)

-- ---- a sheet
end_most : {t : List ℕ} (o : Offer) → EndSizes t o → length (end_bytes o) ≤ 143
unfolding end_bytes sorted_paths
end_most o f =
    let g = length-gather_most (λ p. length p ∷ p) 17 (sorted_paths o) (λ q i. omega (arith, f.short q (in_sort (lex compare) (paths o) i))) in
    let n : length (sorted_paths o) ≡ length (paths o) = sort-length (lex compare) (paths o) in
    let v = value_five (value o) in
    omega (arith, length-append (value_bytes (value o)) (length (paths o) ∷ gather (λ p. length p ∷ p) (sorted_paths o)), f.few)
  where
    value_five : (v : Option ℕ) → length (value_bytes v) ≡ 5
    value_five none = refl
    value_five (some v) = refl

pub sheet_most : (t b : List ℕ) (w : Terms) (d : Board) → board t b w ≡ good d → length (sheet_bytes d.all_ends) ≤ 2864
unfolding sheet_bytes
sheet_most t b w d h =
    omega (arith, length-gather_most end_bytes 143 d.all_ends (λ o i. end_most o (end-sizes t b w d h o i)), few-ends t b w d h)
