-- `put_path`: a space, and the edges with commas. Assumes nothing.
use native.Mathlib.Omega.{arith}
use Rattle.sheet_numbers.proofs.Writing.{wrote_as, wrote_behind}
use Rattle.sheet_text.proofs.Showing.{path-is}
use Rattle.sheet_text.proofs.put_path.Goals as goal

pub returns : goal.returns
returns c = let a = c.args in
    let w = c.wide in
    (wrote_as (wrote_behind 32 c.put_commas.ensures.0) (path-is a.s.now a.p w.result w.ensures.0), omega (arith, w.ensures.0, c.put_commas.ensures.1))
