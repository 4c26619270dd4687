-- `write` stores the head and the ends, which are the sheet's bytes. Assumes nothing.
use mathlib.Core.Path.{◌∙◌}
use Rattle.sheet_write.proofs.Laws.{sheet-is}
use Rattle.sheet_write.proofs.write.Goals as goal

pub returns : goal.returns
returns c = let a = c.args in
    let p = c.requires in
    c.write_ends.ensures ∙ rw c.write_head.ensures (sheet-is p.0 a.out.now a.len p.1 p.3)
