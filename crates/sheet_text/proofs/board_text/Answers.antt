-- `board_text` writes the first line, the ends and the last line, which are the board's text. Assumes nothing.
use mathlib.Core.Path.{refl, ◌∙◌}
use Rattle.sheet_text.proofs.Meaning.{sheet_reads, spans_as, text-is, shown-is}
use native.Mathlib.Omega.{arith}
use Rattle.sheet_numbers.proofs.Writing.{wrote_as, wrote_then, printed}
use Rattle.sheet_text.proofs.board_text.Goals as goal

pub bounds-s-3 : goal.bounds-s-3
bounds-s-3 c = omega (arith, (sheet_reads c.requires.0 _ refl).head)

pub put_count-a-requires : goal.put_count-a-requires
put_count-a-requires c = (c.wide-n.ensures.1, omega (arith, c.requires.1, (sheet_reads c.requires.0 _ refl).head))

pub counts-requires : goal.counts-requires
counts-requires c = omega (arith, (sheet_reads c.requires.0 _ refl).spans.whole)

pub put_ends-b-requires : goal.put_ends-b-requires
put_ends-b-requires c = let w = c.wide-n in
    let r = sheet_reads c.requires.0 w.result w.ensures.0 in
    let k = c.counts.ensures in
    let h = c.put_count-a in
    (spans_as r.spans k.0 k.1, r.fit, r.inside, w.ensures.1, omega (arith, r.inside, c.requires.1, h.ensures.1, h.auto.out))

pub put_pick-requires : goal.put_pick-requires
put_pick-requires c = let w = c.wide-n in
    let r = sheet_reads c.requires.0 w.result w.ensures.0 in
    let h = c.put_count-a in
    let e = c.put_ends-b in
    omega (arith, r.inside, c.requires.1, h.ensures.1, h.auto.out, e.ensures.1, e.auto.out)

pub returns : goal.returns
returns c = λ x. let a = c.args in
    let w = c.wide-n in
    let r = sheet_reads c.requires.0 w.result w.ensures.0 in
    let h = c.put_count-a.ensures in
    let e = c.put_ends-b.ensures in
    let k = c.put_pick.ensures in
    printed (wrote_as (wrote_then (wrote_then h.0 e.0) k.0) (shown-is a.t.now a.s.now a.choice.now w.result w.ensures.0 ∙ text-is x a.choice.now))
    (omega (arith, r.inside, c.requires.1, h.1, e.1, k.1))
