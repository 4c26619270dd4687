-- `respond`: what the layer of the board refused, or what is asked of the board that stands. Assumes nothing.
use mathlib.Core.Path.{ap, ◌∙◌}
use Prim.Native.Nat.{ℕ, ◌≤◌}
use mathlib.Core.List.{List}
use native.Mathlib.Omega.{arith}
use lib.ListN.{length}
use Rattle.std.proofs.lemmas.Result.{err_from_is_err_and}
use Rattle.paper.specs.Offers.{Terms, terms}
use Rattle.paper.proofs.Bytes.{Bytes}
use Rattle.table.proofs.Reading.{read-spans}
use Rattle.offers.specs.Rows.{row_cells}
use Rattle.marking_held.specs.MarkingHeld.{fields_held}
use Rattle.marking_held.proofs.HeldLaws.{fields_long}
use Rattle.board.specs.Reading.{EndsLent, EndsRoom, ends_lent, Laid}
use Rattle.board.proofs.BoardLaws.{laid_refusal, laid_board, laid_seatable}
use Rattle.board.proofs.Ladder.{fine-long}
use Rattle.keshmirun.specs.declared.asking.Request.TheVariants.{Choice}
use Rattle.keshmirun.proofs.Requests.{asked_err, sheet-leaves, laid_shows, pick_leaves, why_leaves, step-leaves, count-leaves, counts_apart}
use Rattle.keshmirun.proofs.Laying.{laid_standing, standing_board}
use Rattle.keshmirun.proofs.asking.respond.Goals.{In_ok-board}
use Rattle.keshmirun.proofs.asking.respond.Goals as goal

-- ---- the board, where it was laid
module _ (c : In_ok-board) where
  abbrev terms-then : Terms
  terms-then = let a = c.args in terms a.g.now a.bounds.now

  abbrev rows_then : List ℕ
  rows_then = c.lay.new.rows

  abbrev lent-then : EndsLent
  lent-then = let l = c.lay.new in ends_lent l.ends l.order l.lens l.cells

  room-then : EndsRoom lent-then
  room-then =
      let k = c.lay.auto in
      record {
        ends-room = omega (arith, k.ends);
        order-room = omega (arith, k.order);
        lens-room = omega (arith, k.lens);
        cells-room = omega (arith, k.cells);
      }

  cells-then : row_cells ≤ length rows_then
  cells-then = omega (arith, c.lay.auto.rows)

  abbrev Board : Type 0
  Board = let a = c.args in Laid c.is_shown.result a.t.now a.b.now terms-then (fields_held a.fields) rows_then c.in_ok-board.board.offers lent-then c.in_ok-board.board.ends

  laid_then : Board
  laid_then =
      let a = c.args in
      laid_board c.is_shown.result a.t.now a.b.now terms-then (fields_held a.fields) rows_then lent-then _
      (c.lay.ensures c.requires.1 c.requires.2) c.in_ok-board.board c.in_ok-board.was

  bytes-then : Bytes c.args.b.now
  bytes-then i = (c.type_inv.b i).fits

pub lay-requires : goal.lay-requires
lay-requires c =
    let a = c.args in
    (c.requires.0, fields_long c.requires.1, fine-long a.t.now a.g.now a.bounds.now c.requires.2, omega arith, record { ends-room = omega arith; order-room = omega arith; lens-room = omega arith; cells-room = omega arith })

pub returns-in_err-board : goal.returns-in_err-board
returns-in_err-board c =
    let a = c.args in
    let w = terms a.g.now a.bounds.now in
    let l = c.lay.new in
    let p = err_from_is_err_and c.from_residual.result c.from_residual.ensures.1 in
    rw (p.1, p.2) (
      asked_err a.t.now a.b.now w a.choice.now a.request _ a.out.now
          (laid_refusal c.is_shown.result a.t.now a.b.now w (fields_held a.fields) l.rows (ends_lent l.ends l.order l.lens l.cells) _
          (c.lay.ensures c.requires.1 c.requires.2) _ c.in_err-board.was),
      tt,
    )

pub show-requires : goal.show-requires
show-requires c =
    let g = (goal.at.show-requires c).In_ok-board in
    laid_shows (laid_then g) (room-then g) c.args.request c.is_shown.ensures c.in-Sheet.is (cells-then g)

pub returns-in-Sheet : goal.returns-in-Sheet
returns-in-Sheet c =
    let g = (goal.at.returns-in-Sheet c).In_ok-board in
    let a = c.args in
    let r = c.show in
    (sheet-leaves (laid_then g) (room-then g) a.request c.is_shown.ensures c.in-Sheet.is a.choice.now _ a.out.now _ r.ensures.0, r.ensures.1)

pub seat-ends-requires : goal.seat-ends-requires
seat-ends-requires c =
    let g = (goal.at.seat-ends-requires c).In_ok-board in
    let y = laid_then g in
    (c.requires.0, rw (read-spans _ c.requires.0).edges-read (laid_seatable y (room-then g).ends-room (cells-then g)), y.listed.few)

pub assemble-offers-requires : goal.assemble-offers-requires
assemble-offers-requires c =
    let g = (goal.at.assemble-offers-requires c).In_ok-board in
    ((laid_then g).holds_ts.fits, cells-then g)

pub pick-requires : goal.pick-requires
pick-requires c = (c.requires.0, c.assemble-offers.ensures.1, c.seat-ends.ensures.0, omega (arith, (fields_long c.requires.1).kept-long))

pub returns-in-Pick : goal.returns-in-Pick
returns-in-Pick c =
    let g = (goal.at.returns-in-Pick c).In_ok-board in
    let o = c.assemble-offers in
    let e = c.seat-ends in
    let d = laid_standing (laid_then g) (bytes-then g) o.result o.ensures.0 e.result e.ensures.1 e.ensures.2 in
    let b = standing_board (laid_then g) (bytes-then g) o.result o.ensures.0 e.result e.ensures.1 e.ensures.2 in
    let a = c.args in
    let r = c.pick in (
      pick_leaves a.t.now a.b.now (terms a.g.now a.bounds.now) a.choice.now d b a.request _ a.out.now _ _
          (c.in-Choice.is ∙ ap Choice c.in-Pick.is) (r.ensures.0 d.on d.stands),
      r.ensures.1,
    )

pub returns-in-Why : goal.returns-in-Why
returns-in-Why c =
    let g = (goal.at.returns-in-Why c).In_ok-board in
    let o = c.assemble-offers in
    let e = c.seat-ends in
    let d = laid_standing (laid_then g) (bytes-then g) o.result o.ensures.0 e.result e.ensures.1 e.ensures.2 in
    let b = standing_board (laid_then g) (bytes-then g) o.result o.ensures.0 e.result e.ensures.1 e.ensures.2 in
    let a = c.args in
    let r = c.why in (
      why_leaves a.t.now a.b.now (terms a.g.now a.bounds.now) a.choice.now d b a.request _ a.out.now _ _
          (c.in-Choice.is ∙ ap Choice c.in-Why.is) (r.ensures.0 d.on d.stands),
      r.ensures.1,
    )

pub step-requires : goal.step-requires
step-requires c =
    let g = (goal.at.step-requires c).In_ok-board in
    let o = c.assemble-offers in
    let e = c.seat-ends in
    let d = laid_standing (laid_then g) (bytes-then g) o.result o.ensures.0 e.result e.ensures.1 e.ensures.2 in
    (c.requires.0, o.ensures.1, e.ensures.0, fields_long c.requires.1, d)

pub returns-in-Step : goal.returns-in-Step
returns-in-Step c =
    let g = (goal.at.returns-in-Step c).In_ok-board in
    let o = c.assemble-offers in
    let e = c.seat-ends in
    let d = laid_standing (laid_then g) (bytes-then g) o.result o.ensures.0 e.result e.ensures.1 e.ensures.2 in
    let b = standing_board (laid_then g) (bytes-then g) o.result o.ensures.0 e.result e.ensures.1 e.ensures.2 in
    let a = c.args in
    let r = c.step in (
      step-leaves a.t.now a.b.now (terms a.g.now a.bounds.now) a.choice.now d b a.request _ a.out.now _
          (c.in-Choice.is ∙ ap Choice c.in-Step.is) (r.ensures.0 d),
      r.ensures.1,
    )

pub returns-in-Count : goal.returns-in-Count
returns-in-Count c =
    let g = (goal.at.returns-in-Count c).In_ok-board in
    let o = c.assemble-offers in
    let e = c.seat-ends in
    let d = laid_standing (laid_then g) (bytes-then g) o.result o.ensures.0 e.result e.ensures.1 e.ensures.2 in
    let b = standing_board (laid_then g) (bytes-then g) o.result o.ensures.0 e.result e.ensures.1 e.ensures.2 in
    let a = c.args in
    let r = c.states in (
      count-leaves a.t.now a.b.now (terms a.g.now a.bounds.now) a.choice.now d b a.request _ a.out.now a.out.now _ _
          (c.in-Choice.is ∙ ap Choice c.in-Count.is) (omega (arith, r.ensures.0), omega (arith, r.ensures.1)),
      counts_apart e.result.count r.result e.ensures.0.few r.ensures.1,
    )
