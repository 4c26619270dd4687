-- `lay`: too many offers or paths, or what the ends say. Assumes nothing.
use mathlib.Core.Path.{◌≡◌}
use native.Mathlib.Omega.{arith}
use borrow.Author.Rules.{rules}
use Rattle.std.specs.Prelude.{Some, None, Ok, Err}
use Rattle.std.proofs.lemmas.Result.{err_from_is_err_and}
use Rattle.paper.specs.Limits.{limits}
use Rattle.paper.specs.Offers.{terms, goes_over}
use Rattle.paper.proofs.Bytes.{Bytes}
use Rattle.wire.specs.declared.Refusal.TheVariants.{Size}
use Rattle.marking_held.specs.MarkingHeld.{fields_held}
use Rattle.marking_held.proofs.HeldLaws.{live-is-good}
use Rattle.offers_all.proofs.Stages.{ranges-zero}
use Rattle.board.specs.Reading.{ends_lent}
use Rattle.board.proofs.Ladder.{board_8, board_arranged, fine-ties}
use Rattle.board.proofs.reading.lay.Goals as goal

pub offered-requires : goal.offered-requires
offered-requires c =
    let p = c.requires in
    (p.0, p.1, p.2, record { few = omega arith; cells = p.3; parts = ranges-zero limits.most_edges 0; lows = search rules; highs = search rules })

pub returns-in_err-offers : goal.returns-in_err-offers
returns-in_err-offers c = λ l f.
    let a = c.args in
    let x = c.offered in
    let u : Bytes a.b.now = λ i. (c.type_inv.b i).fits in
    let goes = goes_over (terms a.g.now a.bounds.now) in
    let none : x.result ≡ None = c.in_err-offers.ensures.ok_part in
    let p = err_from_is_err_and c.from_residual.result c.from_residual.ensures.1 in
    let why : c.from_residual.result ≡ Err Size = cc (p.1, p.2, rw none at c.in_err-offers.ensures.value) in
    let told = rw none at x.ensures in
    let built = told.1 l.current goes (fine-ties a.t.now a.g.now a.bounds.now f) (live-is-good a.t.now a.b.now (fields_held a.fields) l u) l.held in
    rw why (board_8 a.t.now a.b.now a.g.now a.bounds.now c.requires.0 l f built)

pub arrange-requires : goal.arrange-requires
arrange-requires c =
    let p = c.requires in
    let x = c.offered in (
      p.0,
      record { rows-there = omega (arith, p.3, x.auto); froms = omega (arith, x.auto); tos = omega (arith, x.auto); ranges = x.ensures.0; rooms = p.4 },
    )

pub returns-in_err-count : goal.returns-in_err-count
returns-in_err-count c = λ l f.
    let a = c.args in
    let x = c.offered in
    let u : Bytes a.b.now = λ i. (c.type_inv.b i).fits in
    let goes = goes_over (terms a.g.now a.bounds.now) in
    let some : x.result ≡ Some c.in_ok-offers.offers = c.in_ok-offers.ensures.ok_part in
    let told = rw some at x.ensures in
    let built = told.1 l.current goes (fine-ties a.t.now a.g.now a.bounds.now f) (live-is-good a.t.now a.b.now (fields_held a.fields) l u) l.held in
    let e = c.arrange in
    let p = err_from_is_err_and c.from_residual-in_err-count.result c.from_residual-in_err-count.ensures.1 in
    let why = c.in_err-count.ensures l.current goes c.in_ok-offers.offers built in
    rw p.1 (board_arranged a.t.now a.b.now a.g.now a.bounds.now c.requires.0 l f a.show x.new.rows c.in_ok-offers.offers
    (ends_lent e.new.ends e.new.order e.new.lens e.new.cells) x.new.from x.new.to built (Err p.0) (cc (p.2, why.0), why.1))

pub returns : goal.returns
returns c = λ l f.
    let a = c.args in
    let x = c.offered in
    let u : Bytes a.b.now = λ i. (c.type_inv.b i).fits in
    let goes = goes_over (terms a.g.now a.bounds.now) in
    let some : x.result ≡ Some c.in_ok-offers.offers = c.in_ok-offers.ensures.ok_part in
    let told = rw some at x.ensures in
    let built = told.1 l.current goes (fine-ties a.t.now a.g.now a.bounds.now f) (live-is-good a.t.now a.b.now (fields_held a.fields) l u) l.held in
    let e = c.arrange in
    board_arranged a.t.now a.b.now a.g.now a.bounds.now c.requires.0 l f a.show x.new.rows c.in_ok-offers.offers
    (ends_lent e.new.ends e.new.order e.new.lens e.new.cells) x.new.from x.new.to built (Ok c.in_ok-count.count)
    (c.in_ok-count.ensures l.current goes c.in_ok-offers.offers built)
