-- `write_path` stores a length and the edges behind it. Assumes nothing.
use mathlib.Core.Path.{◌≡◌, ◌∙◌}
use native.Mathlib.Omega.{arith}
use Rattle.paper.specs.Lists.{at}
use Rattle.sheet_write.proofs.Laws.{path-is}
use Rattle.sheet_write.proofs.write_path.Goals as goal

pub returns : goal.returns
returns c = let a = c.args in
    let w : c.wide-n.result ≡ at a.lens.now a.q = omega arith in
    (omega arith, c.copy.ensures ∙ rw w (path-is a.lens.now a.cells.now a.q a.out.now a.to))
