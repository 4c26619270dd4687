-- `put_end`: the head of the line, the paths, the line's end. Assumes nothing.
use mathlib.Core.Path.{◌∙◌}
use Rattle.std.proofs.Common.{rules, arith, length, ◌<◌}
use Rattle.sheet_numbers.proofs.Writing.{wrote_as, wrote_then, wrote_more}
use Rattle.sheet_text.proofs.Showing.{end_grow, end-over, end_is}
use Rattle.sheet_text.proofs.put_end.Goals as goal

pub put_head-a-requires : goal.put_head-a-requires
put_head-a-requires c = let a = c.args in
    let p = c.requires in
    let g = end_grow a.s.now a.p in
    (p.0, p.1, omega (arith, p, g), p.3, omega (arith, p, g))

pub overflow_add-p : goal.overflow_add-p
overflow_add-p c = let a = c.args in omega (arith, c.requires, end_grow a.s.now a.p)

pub bounds-s-p : goal.bounds-s-p
bounds-s-p c = let a = c.args in omega (arith, c.requires, end_grow a.s.now a.p)

pub overflow_add-p-2 : goal.overflow_add-p-2
overflow_add-p-2 c = let a = c.args in omega (arith, c.requires, end_grow a.s.now a.p)

pub put_paths-b-requires : goal.put_paths-b-requires
put_paths-b-requires c = let a = c.args in
    let p = c.requires in
    let e = end-over a.s.now a.p c.wide-m.result c.wide-m.ensures.0 in
    let h = c.put_head-a in
    (omega (arith, e, p), omega (arith, e, p, h.ensures.1, h.auto))

pub returns : goal.returns
returns c = let a = c.args in
    let w = c.wide-m in
    let e = end-over a.s.now a.p w.result w.ensures.0 in
    let h = c.put_head-a.ensures in
    let q = c.put_paths-b.ensures in
    (q.0 ∙ e, wrote_as (wrote_more (wrote_then h.0 q.1) 10) (end_is a.t.now a.s.now a.p a.k w.result w.ensures.0), omega (arith, h.1, q.2, end_grow a.s.now a.p))

pub bounds-out-e : goal.bounds-out-e
bounds-out-e c = let a = c.args in
    let p = c.requires in
    let e = end-over a.s.now a.p c.wide-m.result c.wide-m.ensures.0 in
    let h = c.put_head-a in
    let q = c.put_paths-b in
    omega (arith, e, p, h.ensures.1, h.auto.out, q.ensures.0, q.ensures.2, q.auto.out, end_grow a.s.now a.p)

pub overflow_add-result : goal.overflow_add-result
overflow_add-result c = let h : c.put_paths-b.result.written < length c.put_paths-b.new.out = bounds-out-e c in search rules
