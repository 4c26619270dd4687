-- `list_roused`: the invariant says that what is listed is asked for, if it was before. Assumes nothing.
use Prim.Native.Nat.{◌-◌}
use borrow.Author.Rules.{rules}
use Rattle.pick_bounds.specs.Bounds.{good}
use Rattle.pick_demands.proofs.Demands.{obeying}
use Rattle.pick_demands.proofs.list_roused.Goals as goal

pub loop-i-preserved : goal.loop-i-preserved
loop-i-preserved c = let a = c.args in
    let l = c.loop-i in
    let rule = c.rule_at-rule in
    let free = c.without-open in
    let note = c.note-count in
    (note.ensures.0, λ want f. let p = good a.net.now want in note.ensures.1 p a.b (l.invariant.1 want f) (c.lack_roused.ensures p free.result (obeying a.net.now want (l.i - 1) (search rules) rule.result rule.ensures) (l.invariant.1 want f) free.ensures))
