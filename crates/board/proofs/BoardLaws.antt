-- A board that was read, for its callers: the refusals before it, and what its slices say. Assumes nothing.
use mathlib.Core.Path.{◌≡◌, sym, ap, ◌∙◌}
use mathlib.Core.Bool.{Bool, true}
use mathlib.Core.List.{List}
use Prim.Native.Nat.{ℕ, ◌+◌, ◌*◌, ◌%◌, ◌≤◌, ◌<◌}
use native.Mathlib.Omega.{arith}
use native.Mathlib.Nat.{mod-eq_of_lt}
use lib.ListN.{length}
use Rattle.paper.specs.Lists.{at}
use Rattle.paper.specs.Limits.{limits}
use Rattle.paper.specs.Answers.{refused}
use Rattle.paper.specs.Table.{edges, upper}
use Rattle.paper.specs.Marking.{Marking}
use Rattle.paper.specs.Offers.{Offer, last_edge, elem, Terms, goes_over, offers}
use Rattle.paper.specs.Choices.{board}
use Rattle.paper.proofs.Boards.{board-good}
use Rattle.paper.proofs.OneMarking.{read-room}
use Rattle.paper.proofs.Origins.{in_offers}
use Rattle.paper.proofs.Sameness.{elem_in, in_elem, on-last}
use Rattle.table.specs.Reading.{table_read}
use Rattle.table.proofs.Reading.{read-refused}
use Rattle.offers.specs.Sets.{nth}
use Rattle.offers.specs.Rows.{rows_in, row_cells, cell}
use Rattle.offers.specs.Struct.{Copied, beside_in, rows_of}
use Rattle.offers.proofs.Sets.{member}
use Rattle.offers.specs.declared.Offers.{Offers}
use Rattle.offers_all.proofs.Struct.{copied_holds}
use Rattle.std.specs.Prelude.{Result, Ok, Err}
use Rattle.wire.specs.declared.Refusal.{Refusal}
use Rattle.wire.specs.Refusals.{number, place}
use Rattle.board.specs.declared.reading.Counts.{Counts}
use Rattle.ends_masks.specs.Seating.{Seatable, EndsSeated, Seated, MarkingTold, Stands}
use Rattle.ends_masks.specs.declared.Ends.{Ends}
use Rattle.marking_held.specs.MarkingHeld.{Held}
use Rattle.marking_held.proofs.HeldLaws.{stock_stays}
use Rattle.board.specs.Reading.{EndsLent, Laid, BoardLaid}

-- ---- rows 1 to 8
pub board-refused : (t b : List ℕ) (w : Terms) (n p : ℕ) → table_read t ≡ refused n p → board t b w ≡ refused n p
unfolding board
board-refused t b w n p e = rw (read-refused t n p e)

module _ (show : Bool) (t b : List ℕ) (w : Terms) (x : Held) (m : List ℕ) (s : EndsLent) (r : Result Counts Refusal) (h : BoardLaid show t b w x m s r) where
  pub laid_refusal : (v : Refusal) → r ≡ Err v → board t b w ≡ refused (number v) (place v)
  laid_refusal v e = rw e at h

  pub laid_board : (n : Counts) → r ≡ Ok n → Laid show t b w x m n.offers s n.ends
  laid_board n e = rw e at h

-- ---- a board
offer-edge : (t : List ℕ) (w : Terms) (m : Marking) (x : Offer) → elem x (offers t (goes_over w) m) ≡ true → last_edge x < edges t
offer-edge t w m x k =
    let r = in_offers t (goes_over w) m (elem_in (offers t (goes_over w) m) k) in
    omega (arith, r.1, on-last t (goes_over w) m limits.longest_path r.0 r.2)

module _ {show : Bool} {t b : List ℕ} {w : Terms} {x : Held} {m : List ℕ} {c : ℕ} {s : EndsLent} {n : ℕ} (l : Laid show t b w x m c s n) where
  -- an end's last edge is one of the table's, as a byte says it too
  laid_edges : (k : ℕ) → k < n → ((rows_in m 0).entry (at s.ends k)).last % 256 < edges t
  laid_edges k h =
      let i = at s.ends k in
      let y = nth l.trees i in
      let r = l.holds_ts.rows i (l.listed.inside k h) in
      let e : elem y l.on.all_offers ≡ true = sym (l.offers-are y) ∙ in_elem (member l.trees i (l.listed.inside k h)) in
      let f = offer-edge t w l.on.current y (rw (board-good t b w l.on l.is-board).facts.is-offers at e) in
      let g = mod-eq_of_lt r.narrow.last-small in
      omega (arith, r.last-is)

  -- the ends can be seated
  pub laid_seatable : limits.most_ends ≤ length s.ends → row_cells ≤ length m → Seatable m s.ends n (edges t)
  laid_seatable q r = record {
    rowed = record {
      many = omega (arith, l.listed.few);
      each-inside = λ k h. omega (arith, l.listed.inside k h, l.holds_ts.count-is, l.holds_ts.fits);
    };
    cells-there = r;
    lasts = laid_edges;
  }

  pub laid_told : MarkingTold t l.on.current x.runs x.kept
  laid_told = record {
    table-fine = (board-good t b w l.on l.is-board).table-fine;
    running = l.held_as.running;
    stocks = λ k q a. (stock_stays l.held_as k q a).many;
  }

  pub stocks-fit : (k : ℕ) → length (l.on.current.stock k) ≤ upper t k
  stocks-fit = read-room t b l.on.current (board-good t b w l.on l.is-board).is_read

  -- the offers and the ends by value
  module _ (o : Offers) (copied : Copied m c o) (e : Ends) (count-is : e.count ≡ n) (h : EndsSeated t m s.ends e) where
    within : {k : ℕ} → k < e.count → k < n
    within q = omega (arith, count-is)

    inside : (k : ℕ) → k < e.count → at e.row k < c
    inside k q = omega (arith, h.rows_are k q, l.listed.inside k (within q), l.holds_ts.count-is)

    last-is : (k : ℕ) → k < e.count → at e.edge k ≡ at o.last (at e.row k)
    last-is k q =
        let zero : 16 * at e.row k + 0 ≡ 16 * at e.row k = omega arith in
        h.columns.edges_are k q ∙ ap (λ i. ((rows_in m 0).entry i).last % 256) (sym (h.rows_are k q)) ∙ ap (λ i. at m i % 256) (sym zero) ∙ sym (copied.lasts (at e.row k) (inside k q))

    laid_seated : Seated t l.on (rows_of o (beside_in m)) l.trees e
    laid_seated = record {
      table_is = l.table_is;
      holds_ts = copied_holds t m c o l.trees copied l.holds_ts;
      offers-are = l.offers-are;
      number = count-is ∙ l.listed.number;
      few = omega (arith, count-is, l.listed.few);
      inside = λ k q. omega (arith, h.rows_are k q, l.listed.inside k (within q));
      ends-are = λ k q. ap (nth l.trees) (h.rows_are k q) ∙ l.listed.ends-are k (within q);
      edges_are = last-is;
      edges-inside = λ k q. omega (arith, h.columns.edges_are k q, laid_edges k (within q));
      targets-are = h.columns.targets-are;
      homes-are = h.columns.homes-are;
      makers-are = λ k q. h.makers-are k q ∙ ap (λ i. cell m i 6) (sym (h.rows_are k q));
      foes-are = λ k q. h.foes-are k q ∙ ap (λ i. cell m i 7) (sym (h.rows_are k q));
    }

    pub laid_stands : Stands t l.on o e x.runs x.kept
    laid_stands = record { beside = beside_in m; trees = l.trees; seated = laid_seated; told = laid_told; roomy = stocks-fit }
