-- What a good board says: rows 1 to 8 as facts. Assumes nothing.
use mathlib.Core.Path.{◌≡◌, sym, ap, subst}
use Prim.Native.Nat.{ℕ}
use mathlib.Core.Bool.{true, false, not}
use mathlib.Core.List.{List}
use mathlib.Core.Option.{some}
use borrow.Author.Tests.{not-true}
use Rattle.paper.specs.Answers.{good}
use Rattle.paper.specs.Limits.{limits}
use Rattle.paper.specs.Table.{table_fine}
use Rattle.paper.specs.Marking.{Marking, marking}
use Rattle.paper.specs.Offers.{guards_fine, bounds_fine, Terms, goes_over, offers, ends, sizes_fine}
use Rattle.paper.specs.Choices.{Board, board_of, board}
use Rattle.paper.proofs.Ladders.{same_good, row-good, need-good, known-good}

-- of a table, a marking and terms: rows 6 to 8 with 18, and what stands on the board
pub record BoardFacts (t : List ℕ) (m : Marking) (w : Terms) (d : Board) : Type 0 where
  pub live : m.ended ≡ false
  pub guards-fine : guards_fine t w.guards ≡ true
  pub bounds-fine : bounds_fine t w.bounds ≡ true
  pub sizes-fine : sizes_fine t (offers t (goes_over w) m) ≡ true
  pub is-table : d.table ≡ t
  pub is-current : d.current ≡ m
  pub is-offers : d.all_offers ≡ offers t (goes_over w) m
  pub is-ends : d.all_ends ≡ ends t (offers t (goes_over w) m)

pub board_facts : (t : List ℕ) (m : Marking) (w : Terms) (d : Board) → board_of t m w ≡ good d → BoardFacts t m w d
unfolding board_of
board_facts t m w d h =
    let r6 = need-good 6 (not m.ended) _ d h in
    let r7 = need-good 7 (guards_fine t w.guards) _ d r6.1 in
    let r18 = need-good 18 (bounds_fine t w.bounds) _ d r7.1 in
    let r8 = need-good 8 (sizes_fine t (offers t (goes_over w) m)) _ d r18.1 in
    let e = sym (same_good r8.1) in
    record {
      live = not-true m.ended r6.0;
      guards-fine = r7.0;
      bounds-fine = r18.0;
      sizes-fine = r8.0;
      is-table = ap (λ (x : Board). x.table) e;
      is-current = ap (λ (x : Board). x.current) e;
      is-offers = ap (λ (x : Board). x.all_offers) e;
      is-ends = ap (λ (x : Board). x.all_ends) e;
    }

-- of bytes: rows 1 to 8
pub record GoodBoard (t b : List ℕ) (w : Terms) (d : Board) : Type 0 where
  pub table-fine : table_fine t limits ≡ good tt
  pub is_read : marking t b ≡ some d.current
  pub facts : BoardFacts t d.current w d

pub board-good : (t b : List ℕ) (w : Terms) (d : Board) → board t b w ≡ good d → GoodBoard t b w d
unfolding board
board-good t b w d h =
    let r4 = row-good (table_fine t limits) _ d h in
    let r5 = known-good 5 (marking t b) _ d r4.2 in
    let f = board_facts t r5.0 w d r5.2 in
    record {
      table-fine = r4.1;
      is_read = rw f.is-current r5.1;
      facts = subst (λ (x : Marking). BoardFacts t x w d) (sym f.is-current) f;
    }
