-- `is_overdrawn`: the invariant says that a set that passes has no more than what is summed of the ends so far. Assumes nothing.
use borrow.Author.Rules.{rules}
use Rattle.pick_bounds.specs.Bounds.{good}
use Rattle.pick_demands.proofs.Demands.{caps_none, obeying}
use Rattle.pick_demands.proofs.is_overdrawn.Goals as goal
use Rattle.pick_demands.proofs.is_overdrawn.Goals.{then-is_cap+else-is_over, else-is_cap}

pub loop-i-init : goal.loop-i-init
loop-i-init c = let a = c.args in
    λ want f. caps_none (good a.net.now want) a.b

pub loop-i-preserved : goal.loop-i-preserved
loop-i-preserved c = let a = c.args in
    let l = c.loop-i in
    let rule = c.rule_at-rule in
    λ want f.
    let p = good a.net.now want in
    elim c.if-is_cap.branch [
      | then-is_cap+else-is_over w ↦
          rw w.all-is (w.both_caps-all.ensures p a.b (l.invariant want f) (c.is_cap.ensures w.if-is_cap.true p (obeying a.net.now want l.i (search rules) rule.result rule.ensures) f))
      | else-is_cap w ↦ rw w.all-is (l.invariant want f)
    ]

pub returns-then-is_over : goal.returns-then-is_over
returns-then-is_over c = let a = c.args in
    let rule = c.rule_at-rule in
    λ e want f. let p = good a.net.now want in c.is_over.ensures c.if-is_over.true p f (c.is_cap.ensures c.if-is_cap.true p (obeying a.net.now want c.loop-i.i (search rules) rule.result rule.ensures) f)

pub returns : goal.returns
returns c = let a = c.args in
    λ e want f. c.is_over-2.ensures e (good a.net.now want) f (c.loop-i.invariant want f)
