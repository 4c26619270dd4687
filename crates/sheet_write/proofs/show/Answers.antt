-- `show`: the room first, then the bytes. Assumes nothing.
use mathlib.Core.Path.{sym, refl, ◌∙◌}
use Rattle.paper.proofs.Calls.{reply-short}
use Rattle.sheet_write.proofs.Laws.{length-sheet}
use Rattle.sheet_write.proofs.show.Goals as goal

pub returns-then-out-len : goal.returns-then-out-len
returns-then-out-len c = (reply-short _ c.args.out.now c.size-len.result _ (length-sheet c.requires ∙ sym c.size-len.ensures.0) c.if-out-len.true refl, tt)
