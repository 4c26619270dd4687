-- `put_ends` goes from end to end: what is left of the sheet's ends is what is left to write. Assumes nothing.
use mathlib.Core.Path.{sym, ◌∙◌}
use Prim.Native.Nat.{◌+◌, ◌-◌}
use native.Mathlib.Omega.{arith}
use Rattle.sheet_text.specs.Printed.{end_over}
use Rattle.sheet_numbers.proofs.Writing.{writing_on, writing_long, writing_done}
use Rattle.sheet_text.proofs.Showing.{ends_grow, ends_on, ends_next, fit_here, ends-end, ends-none}
use Rattle.sheet_text.proofs.put_ends.Goals as goal

pub put_end-e-requires : goal.put_end-e-requires
put_end-e-requires c = let a = c.args in
    let pre = c.requires in
    let l = c.loop-k in
    let h = c.loop-k-test.true in
    let g = ends_grow a.s.now (end_over a.s.now l.p) (a.n - (l.k + 1)) in
    let e = ends_on a.t.now a.s.now l.p l.k a.n h in
    let f = fit_here a.t.now a.s.now l.p l.k a.n h l.invariant.2 in
    (pre.0, omega (arith, f.0, pre.0.edges-read), omega (arith, g, e, l.invariant.1, pre), omega (arith, h, pre), omega (arith, g, e, l.invariant.1, l.invariant.0, pre, writing_long l.invariant.3))

pub loop-k-preserved : goal.loop-k-preserved
loop-k-preserved c = let a = c.args in
    let l = c.loop-k in
    let h = c.loop-k-test.true in
    let e = c.put_end-e.ensures in
    let f = fit_here a.t.now a.s.now l.p l.k a.n h l.invariant.2 in
    (omega (arith, e.2, l.invariant.0), rw e.0 (sym (ends_on a.t.now a.s.now l.p l.k a.n h) ∙ l.invariant.1), rw e.0 f.1, rw e.0 (writing_on l.invariant.3 (ends_next a.t.now a.s.now l.p l.k a.n h) e.1))

pub returns : goal.returns
returns c = let a = c.args in
    let l = c.loop-k in
    let h = c.loop-k-test.false in
    (writing_done l.invariant.3 (ends-none a.t.now a.s.now l.p l.k a.n h), omega (arith, l.invariant.0, l.invariant.1, ends-end a.t.now a.s.now l.p l.k a.n h))
