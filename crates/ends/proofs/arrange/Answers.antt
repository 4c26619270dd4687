-- `ends::arrange` meets its contract: the rows that are ends are found, and put in order; row 8 if there are too many. Assumes nothing.
use mathlib.Core.Path.{◌≡◌}
use native.Mathlib.Omega.{arith}
use Rattle.std.specs.Prelude.{Err}
use Rattle.std.proofs.lemmas.Result.{err_from_is_err_and}
use Rattle.wire.specs.declared.Refusal.TheVariants.{Size}
use Rattle.ends_paths.specs.Blocks.{Slots}
use Rattle.ends.proofs.Found.{keyed-inside}
use Rattle.ends.proofs.Arranging.{told-many, told-good}
use Rattle.ends.proofs.arrange.Goals as goal

pub returns-in_err-n : goal.returns-in_err-n
returns-in_err-n c =
    let a = c.args in
    let many = c.in_err-n.ensures in
    let p = err_from_is_err_and c.from_residual.result c.from_residual.ensures.1 in
    let is : c.from_residual.result ≡ Err Size = cc (p.1, p.2, many.0) in
    rw is (told-many a.t.now a.rows.now a.from.now a.to.now a.show a.ends.now a.order.now a.lens.now a.cells.now many.1)

pub put_in_order-requires : goal.put_in_order-requires
put_in_order-requires c =
    let p = c.requires.1 in
    let all = c.in_ok-n.ensures in
    let slots : Slots c.collect.new.found c.in_ok-n.n
    = record { few = all.few; there = omega (arith, c.collect.auto); rows = λ s l. keyed-inside p.ranges (all.keyed s l) } in (
      (p.rows-there, (slots, (omega (arith, c.collect.auto), all.grouped))),
      p.rooms,
    )

pub returns : goal.returns
returns c =
    let p = c.requires.1 in
    let all = c.in_ok-n.ensures in
    told-good (record { few = all.few; is_found = all.good; keyed = all.keyed; ordered = c.put_in_order.ensures })
    (omega (arith, c.put_in_order.auto, p.rooms.cells-room))
