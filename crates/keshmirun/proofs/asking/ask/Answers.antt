-- `ask`: row after row, each by what its reader answers, and what is asked of the board. Assumes nothing.
use mathlib.Core.Path.{◌≡◌, sym, ap, ◌∙◌}
use native.Mathlib.Omega.{arith}
use Rattle.std.proofs.lemmas.Result.{err_from_is_err_and}
use Rattle.std.specs.Prelude.{Ok}
use Rattle.paper.specs.Answers.{good}
use Rattle.paper.specs.Offers.{terms}
use Rattle.wire.specs.declared.Refusal.TheVariants.{Ended}
use Rattle.table.specs.Reading.{table_read}
use Rattle.table.proofs.Reading.{read-spans, read-good, nodes_most, edges_most}
use Rattle.marking_held.specs.MarkingHeld.{LiveMarking, held_of}
use Rattle.marking_held.proofs.HeldLaws.{lengths_up, live_up}
use Rattle.board.proofs.Ladder.{board_5, board_6, board-terms}
use Rattle.keshmirun.proofs.Requests.{asked_err, table_err}
use Rattle.keshmirun.proofs.asking.ask.Goals.{In_ok-table, Else-ended}
use Rattle.keshmirun.proofs.asking.ask.Goals as goal

-- ---- the table that was read
module _ (c : In_ok-table) where
  table_then : table_read c.args.t.now ≡ good c.in_ok-table.table
  table_then = sym c.in_ok-table.ensures

-- ---- the marking that is live, as it was read
module _ (c : Else-ended) where
  live_then : let w = c.read-2.new in LiveMarking c.args.t.now c.args.b.now (held_of w.from w.kept w.tokens)
  live_then =
      let t = c.args.t.now in
      let r = c.read-2 in
      let w = r.new in
      let n = lengths_up w.from w.kept w.tokens (omega (arith, r.auto.from)) (omega (arith, r.auto.kept)) (omega (arith, r.auto.tokens)) in
      live_up t c.args.b.now w.from w.kept w.tokens r.result r.ensures (read-good t (sym c.in_ok-table.ensures)) n (c.in_ok-ended.was ∙ ap Ok c.if-ended.false)

pub returns-in_err-table : goal.returns-in_err-table
returns-in_err-table c =
    let a = c.args in
    let p = err_from_is_err_and c.from_residual.result c.from_residual.ensures.1 in
    rw (p.1, p.2) (table_err a.t.now a.b.now (terms a.g.now a.bounds.now) a.choice.now a.request _ a.out.now (sym c.in_err-table.ensures), tt)

pub read-requires-2 : goal.read-requires-2
read-requires-2 c =
    let t = c.args.t.now in
    let k = table_then (goal.at.read-requires-2 c).In_ok-table in
    (k, nodes_most t k, nodes_most t k, edges_most t k)

pub returns-in_err-ended : goal.returns-in_err-ended
returns-in_err-ended c =
    let a = c.args in
    let w = c.read-2.new in
    let r = c.from_residual-in_err-ended in
    let p = err_from_is_err_and r.result r.ensures.1 in
    rw (p.1, p.2) (
      asked_err a.t.now a.b.now (terms a.g.now a.bounds.now) a.choice.now a.request _ a.out.now
          (board_5 a.t.now a.b.now a.g.now a.bounds.now (sym c.in_ok-table.ensures) w.from w.kept w.tokens c.read-2.result c.read-2.ensures _ c.in_err-ended.was),
      tt,
    )

pub returns-then-ended : goal.returns-then-ended
returns-then-ended c =
    let a = c.args in
    let w = c.read-2.new in (
      asked_err a.t.now a.b.now (terms a.g.now a.bounds.now) a.choice.now a.request Ended a.out.now
          (board_6 a.t.now a.b.now a.g.now a.bounds.now (sym c.in_ok-table.ensures) w.from w.kept w.tokens c.read-2.result c.read-2.ensures (c.in_ok-ended.was ∙ ap Ok c.if-ended.true)),
      tt,
    )

pub read-requires-3 : goal.read-requires-3
read-requires-3 c = read-spans c.args.t.now (sym c.in_ok-table.ensures)

pub returns-in_err-read : goal.returns-in_err-read
returns-in_err-read c =
    let a = c.args in
    let live = live_then (goal.at.returns-in_err-read c).Else-ended in
    let r = c.from_residual-in_err-read in
    let p = err_from_is_err_and r.result r.ensures.1 in
    rw (p.1, p.2) (
      asked_err a.t.now a.b.now (terms a.g.now a.bounds.now) a.choice.now a.request _ a.out.now
          (board-terms a.t.now a.b.now a.g.now a.bounds.now (sym c.in_ok-table.ensures) live _ _ c.in_err-read.ensures),
      tt,
    )

pub respond-requires : goal.respond-requires
respond-requires c = (sym c.in_ok-table.ensures, live_then (goal.at.respond-requires c).Else-ended, sym c.in_ok-read.ensures)
