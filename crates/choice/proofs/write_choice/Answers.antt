-- `write_choice`: the taken ends, one after the other. Assumes nothing.
use mathlib.Core.Path.{◌≡◌, sym, ◌∙◌}
use Prim.Native.Nat.{◌<◌}
use native.Mathlib.Omega.{arith}
use lib.ListN.{length}
use Rattle.choice.proofs.Laws.{writing_none, writing_in, writing_out, writing_done, has_room}
use Rattle.choice.proofs.write_choice.Goals as goal
use Rattle.choice.proofs.write_choice.Goals.{then-is_taken, else-is_taken}

pub loop-k-init : goal.loop-k-init
loop-k-init c = writing_none c.args.c c.args.out.now

pub bounds-out-to : goal.bounds-out-to
bounds-out-to c = has_room c.loop-k.invariant c.args.n c.loop-k-test.true (sym c.is_taken.ensures ∙ c.if-is_taken.true) c.requires.1

pub overflow_add-to : goal.overflow_add-to
overflow_add-to c =
    let l : c.loop-k.to < length c.loop-k.out = has_room c.loop-k.invariant c.args.n c.loop-k-test.true (sym c.is_taken.ensures ∙ c.if-is_taken.true) c.requires.1 in
    omega arith

pub loop-k-preserved : goal.loop-k-preserved
loop-k-preserved c = elim c.if-is_taken.branch [
  | then-is_taken w ↦ rw (w.out-is, w.to-is) (writing_in c.loop-k.invariant (sym c.is_taken.ensures ∙ w.if-is_taken.true))
  | else-is_taken w ↦ rw (w.out-is, w.to-is) (writing_out c.loop-k.invariant (sym c.is_taken.ensures ∙ w.if-is_taken.false))
]

pub returns : goal.returns
returns c = let a = c.args in
    let s = c.loop-k in
    let e : s.k ≡ a.n = omega arith in
    writing_done (rw e at s.invariant) c.requires.1
