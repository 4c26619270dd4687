-- `tell`: the room first, then the numbers. Assumes nothing.
use mathlib.Core.Path.{refl, sym}
use native.Mathlib.Omega.{arith}
use Rattle.paper.proofs.Calls.{reply-short, reply-full}
use Rattle.choice.specs.Choice.{numbers}
use Rattle.choice.proofs.tell.Goals as goal

pub returns-then-out-len : goal.returns-then-out-len
returns-then-out-len c = let a = c.args in
    (reply-short (numbers a.c a.n) a.out.now c.choice_size-len.result _ (sym c.choice_size-len.ensures.0) c.if-out-len.true refl, tt)

pub returns : goal.returns
returns c = let a = c.args in (
  reply-full (numbers a.c a.n) a.out.now _ c.choice_size-len.result _ (sym c.choice_size-len.ensures.0) c.if-out-len.false refl c.write_choice.ensures,
  omega (arith, c.requires, c.choice_size-len.ensures.1),
)
