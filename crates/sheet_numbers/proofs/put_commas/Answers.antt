-- `put_commas` writes the first number, then each further one behind a comma. Assumes nothing.
use mathlib.Core.Path.{refl, sym, ap, ◌∙◌}
use mathlib.Core.List.{◌∷◌}
use native.Mathlib.Omega.{arith}
use Rattle.paper.specs.Program.{decimal}
use Rattle.sheet_numbers.proofs.Writing.{wrote_one, wrote_as, wrote_long, wrote_then, writing_none, writing_on, writing_long, writing_done}
use Rattle.sheet_numbers.proofs.Decimals.{byte-short, commas-none, commas-first, further_next, further_none}
use Rattle.sheet_numbers.proofs.put_commas.Goals as goal

pub put_decimal-next-requires : goal.put_decimal-next-requires
put_decimal-next-requires c = omega (arith, c.requires.1, byte-short c.wide.result c.wide.ensures.1)

pub put_parted-next-requires : goal.put_parted-next-requires
put_parted-next-requires c = let w = c.wide in
    let d = c.put_decimal-next in
    let l = c.loop-k in
    omega (arith, c.requires.1, byte-short c.wide-in-loop-k.result c.wide-in-loop-k.ensures.1, byte-short w.result w.ensures.1, d.ensures.place, writing_long l.invariant.1, wrote_long d.ensures)

pub loop-k-preserved : goal.loop-k-preserved
loop-k-preserved c = let l = c.loop-k in
    let a = c.args in
    let w = c.wide-in-loop-k in
    let p = c.put_parted-next.ensures in (
      omega (arith, byte-short w.result w.ensures.1, p.place),
      writing_on l.invariant.1 (further_next a.s.now a.from a.n c.requires.0 l.k c.loop-k-test.true) (wrote_as p (ap (λ v. 44 ∷ decimal v) w.ensures.0)),
    )

pub returns : goal.returns
returns c = let a = c.args in
    let l = c.loop-k in
    let w = c.wide in
    let d = c.put_decimal-next.ensures in (
      wrote_as (wrote_then (wrote_as d (ap decimal w.ensures.0)) (writing_done l.invariant.1 (further_none a.s.now a.from a.n c.requires.0 l.k c.loop-k-test.false)))
          (sym (commas-first a.s.now a.from a.n c.requires.0 (omega (arith, c.if-n-eq0.false)))),
      omega (arith, byte-short w.result w.ensures.1, d.place),
    )
