-- `put_paths` goes from path to path: what is left of them is what is left to write. Assumes nothing.
use mathlib.Core.Path.{sym, ◌∙◌}
use Prim.Native.Nat.{◌+◌, ◌-◌}
use native.Mathlib.Omega.{arith}
use Rattle.sheet_text.specs.Printed.{path_over}
use Rattle.sheet_numbers.proofs.Writing.{writing_on, writing_long, writing_done}
use Rattle.sheet_text.proofs.Showing.{paths_grow, paths-on, paths-next, paths-end, paths-none}
use Rattle.sheet_text.proofs.put_paths.Goals as goal

pub put_path-next-requires : goal.put_path-next-requires
put_path-next-requires c = let l = c.loop-j in
    let a = c.args in
    let s = a.s.now in
    let g = paths_grow s (path_over s l.p) (a.m - (l.j + 1)) in
    let e = paths-on s l.p l.j a.m c.loop-j-test.true in
    (omega (arith, g, e, l.invariant.1, c.requires), omega (arith, g, e, l.invariant.1, c.requires), omega (arith, g, e, l.invariant.1, l.invariant.0, c.requires, writing_long l.invariant.2))

pub bounds-s-p : goal.bounds-s-p
bounds-s-p c = let l = c.loop-j in
    let a = c.args in
    let s = a.s.now in
    omega (arith, paths_grow s (path_over s l.p) (a.m - (l.j + 1)), paths-on s l.p l.j a.m c.loop-j-test.true, l.invariant.1, c.requires)

pub overflow_add-p-in-loop-j : goal.overflow_add-p-in-loop-j
overflow_add-p-in-loop-j c = let l = c.loop-j in
    let a = c.args in
    let s = a.s.now in
    omega (arith, paths_grow s (path_over s l.p) (a.m - (l.j + 1)), paths-on s l.p l.j a.m c.loop-j-test.true, l.invariant.1, c.requires, c.wide.ensures.0)

pub loop-j-preserved : goal.loop-j-preserved
loop-j-preserved c = let l = c.loop-j in
    let a = c.args in
    let s = a.s.now in
    let w = c.wide.ensures.0 in
    let h = c.loop-j-test.true in
    (omega (arith, w, c.put_path-next.ensures.1, l.invariant.0), rw w (sym (paths-on s l.p l.j a.m h) ∙ l.invariant.1), rw w (writing_on l.invariant.2 (paths-next s l.p l.j a.m h) c.put_path-next.ensures.0))

pub returns : goal.returns
returns c = let l = c.loop-j in
    let a = c.args in
    let s = a.s.now in
    let h = c.loop-j-test.false in
    (sym (paths-end s l.p l.j a.m h) ∙ l.invariant.1, writing_done l.invariant.2 (paths-none s l.p l.j a.m h), l.invariant.0)
