-- Rows 5 to 8 of a good table, row by row: what the readers' answers make of the board. Assumes nothing.
use Prim.Native.Nat.{ℕ, ◌≤◌, ◌<◌}
use mathlib.Core.Path.{◌≡◌, refl, sym, ap, ◌∙◌}
use mathlib.Core.Bool.{Bool, true, false, not}
use mathlib.Core.List.{List}
use lib.ListN.{length}
use borrow.Author.Tests.{le-leb, lt-leb}
use Rattle.paper.specs.Lists.{below, gather}
use Rattle.paper.specs.Limits.{limits}
use Rattle.paper.specs.Answers.{Answer, refused, good, ◌>>=◌, need}
use Rattle.paper.specs.Table.{edges}
use Rattle.paper.specs.Marking.{marking}
use Rattle.paper.specs.Offers.{Offer, elem, Terms, terms, goes_over, guards_fine, bounds_fine, offers, ends, sizes_fine}
use Rattle.paper.specs.Choices.{Board, board, board_of}
use Rattle.paper.proofs.Bools.{and_both, and_never, iff}
use Rattle.paper.proofs.Members.{in_gather, gather_in, in_below, below_in}
use Rattle.paper.proofs.Sameness.{elem_in, in_elem}
use Rattle.table.specs.declared.Table.{Table}
use Rattle.table.specs.Reading.{table_read}
use Rattle.table.proofs.Reading.{read-fine}
use Rattle.std.specs.Prelude.{Result, Ok, Err}
use Rattle.marking.specs.Reading.{MarkingRead}
use Rattle.wire.specs.declared.Refusal.{Refusal}
use Rattle.wire.specs.Refusals.{number, place}
use Rattle.offers.specs.Rows.{Rows, rows_in, fine}
use Rattle.terms.specs.Terms.{terms_fine, Ties}
use Rattle.terms.proofs.TermLaws.{terms-fine}
use Rattle.terms.proofs.GuardLaws.{guards-long}
use Rattle.offers_all.specs.Stages.{Whole, on_edge}
use Rattle.marking_held.specs.MarkingHeld.{Held, LiveMarking}
use Rattle.marking_held.proofs.HeldLaws.{refused_up, ended_up}
use Rattle.ends.specs.Ends.{EndsListed, Arranged}
use Rattle.board.specs.Reading.{EndsLent, Laid, BoardLaid}
use Rattle.board.specs.declared.reading.Counts.{Counts}

-- so many offers, with what the ends answer
abbrev pub with_offers : ℕ → Result ℕ Refusal → Result Counts Refusal
with_offers c (Ok n) = Ok (record { offers = c; ends = n })
with_offers c (Err v) = Err v

-- ---- the ladder
module _ (t b g x : List ℕ) {k : Table} (e : table_read t ≡ good k) where
  abbrev w : Terms
  w = terms g x

  module _ (from kept tokens : List ℕ) (r : Result Bool Refusal) (h : MarkingRead t b from kept tokens (marking t b) r) where
    pub board_5 : (v : Refusal) → r ≡ Err v → board t b w ≡ refused (number v) (place v)
    unfolding board
    board_5 v q = let z = refused_up t b from kept tokens r h v q in rw (read-fine t e, z.0, z.1, z.2)

    pub board_6 : r ≡ Ok true → board t b w ≡ refused 6 0
    unfolding board board_of
    board_6 q = let z = ended_up t b from kept tokens r h q in rw (read-fine t e, z.1, z.2)

  module _ {y : Held} (l : LiveMarking t b y) where
    abbrev os : List Offer
    os = offers t (goes_over w) l.current

    abbrev the_board : Board
    the_board = record { table = t; current = l.current; all_offers = os; all_ends = ends t os }

    -- the guards, the bounds and the last row are left
    rest : Answer (Unit {0}) → Answer Board
    rest a = a >>= (λ u. need 8 (sizes_fine t os) >>= (λ u. good the_board))

    -- as board_of has them, whether the guards are fine or not
    from-guards : Bool → Answer Board
    from-guards c = need 7 c >>= (λ u. need 18 (bounds_fine t x) >>= (λ u. need 8 (sizes_fine t os) >>= (λ u. good the_board)))

    last-rows : board t b w ≡ rest (terms_fine t g x)
    unfolding board board_of terms_fine rest from-guards
    last-rows = rw (read-fine t e, l.is_read) (ap (λ (c : Bool). need 6 (not c) >>= (λ u. from-guards (guards_fine t g))) l.live ∙ by (guards_fine t g))
      where
        by : (c : Bool) → from-guards c ≡ rest (need 7 c >>= (λ u. need 18 (bounds_fine t x)))
        by true = refl
        by false = refl

    pub board-terms : (n p : ℕ) → refused n p ≡ terms_fine t g x → board t b w ≡ refused n p
    unfolding rest
    board-terms n p q = last-rows ∙ ap rest (sym q)

    module _ (f : terms_fine t g x ≡ good tt) where
      -- the last row is left
      last_row : board t b w ≡ (need 8 (sizes_fine t os) >>= (λ u. good the_board))
      unfolding rest
      last_row = last-rows ∙ ap rest f

      not-fine : sizes_fine t os ≡ false → board t b w ≡ refused 8 0
      not-fine n = last_row ∙ ap (λ (s : Bool). need 8 s >>= (λ u. good the_board)) n

      -- too many offers or paths
      pub board_8 : fine os ≡ false → board t b w ≡ refused 8 0
      unfolding sizes_fine fine
      board_8 n = not-fine (rw n)

      -- too many ends
      pub board_8_ends : limits.most_ends < length (ends t os) → board t b w ≡ refused 8 0
      unfolding sizes_fine fine
      board_8_ends n = not-fine (rw (lt-leb (length (ends t os)) limits.most_ends n) (and_never (fine os)))

      board-is : fine os ≡ true → length (ends t os) ≤ limits.most_ends → board t b w ≡ good the_board
      unfolding sizes_fine fine
      board-is n m = last_row ∙ ap (λ (s : Bool). need 8 s >>= (λ u. good the_board)) (and_both _ _ n (le-leb (length (ends t os)) limits.most_ends m))

      -- the trees of the rows are the offers, edge by edge in another order
      same-offers : (r : Rows) (a c : List ℕ) (z : Whole t l.current (goes_over w) r a c) (o : Offer)
          → elem o (gather (on_edge t (goes_over w) l.current) z.order) ≡ elem o os
      unfolding offers
      same-offers r a c z o =
          iff _ _
          (λ h. let k = in_gather (on_edge t (goes_over w) l.current) z.order (elem_in _ h) in in_elem (gather_in (on_edge t (goes_over w) l.current) (below_in (edges t) (z.only-edges k.0 k.1)) k.2))
          (λ h. let k = in_gather (on_edge t (goes_over w) l.current) (below (edges t)) (elem_in _ h) in in_elem (gather_in (on_edge t (goes_over w) l.current) (z.all_edges k.0 (in_below (edges t) k.1)) k.2))

      module _ (show : Bool) (m : List ℕ) (count : ℕ) (z : EndsLent) (a c : List ℕ) (h : Whole t l.current (goes_over w) (rows_in m count) a c) where
        pub board_laid : (n : ℕ) → EndsListed (gather (on_edge t (goes_over w) l.current) h.order) (ends t os) show z.ends z.order z.lens z.cells n
            → Laid show t b w y m count z n
        board_laid n s = record {
          on = the_board;
          trees = gather (on_edge t (goes_over w) l.current) h.order;
          is-board = board-is h.sizes (rw s.number at s.few);
          table_is = refl;
          holds_ts = h.holds_ts;
          offers-are = same-offers (rows_in m count) a c h;
          listed = s;
          held_as = l.held;
        }

        -- the ends' answer, with the number of offers, is the board's
        pub board_arranged : (r : Result ℕ Refusal) → Arranged r (gather (on_edge t (goes_over w) l.current) h.order) (ends t os) show z.ends z.order z.lens z.cells
            → BoardLaid show t b w y m z (with_offers count r)
        board_arranged (Ok n) s = board_laid n s
        board_arranged (Err v) s = rw s.0 (board_8_ends s.1)

-- ---- what the builder is handed
-- fine guards and a fine list stand for what goes over the edges, and there is a guard for each
module _ (t g x : List ℕ) (f : terms_fine t g x ≡ good tt) where
  pub fine-ties : Ties t g x (goes_over (terms g x))
  fine-ties = record { fine = (terms-fine t g x f).1; goes-are = λ e v. refl }

  pub fine-long : edges t ≤ length g
  fine-long = guards-long t g (terms-fine t g x f).0
