-- `tell`: no room, or one byte. Assumes nothing.
use mathlib.Core.Path.{sym, ◌∙◌}
use native.Mathlib.Omega.{arith}
use lib.ListN.{length}
use borrow.Author.Tests.{eqb-false}
use Rattle.why.proofs.Asked.{told-one}
use Rattle.why.proofs.tell.Goals as goal

pub returns : goal.returns
returns c = let a = c.args in
    let some-room = eqb-false (length a.out.now) 0 (sym c.is_empty.ensures ∙ c.if-is_empty.false) in
    (told-one a.out.now a.byte (omega arith), omega arith)
