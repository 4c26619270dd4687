-- `mark_action`: past the last node nothing is marked, and else an action is. Assumes nothing.
use mathlib.Core.Path.{ap}
use Prim.Native.Nat.{◌≤◌}
use native.Mathlib.Omega.{arith}
use Rattle.paper.specs.Table.{is_action}
use Rattle.choice_agree.proofs.Starting.{action_outside, action_marked}
use Rattle.choice_agree.proofs.mark_action.Goals as goal

pub returns-then-table-i : goal.returns-then-table-i
returns-then-table-i c = let a = c.args in
    let past : a.table.nodes ≤ a.node = omega (arith, c.if-table-i.true, c.wide-i.ensures.0) in
    λ p h. action_outside a.t.now p a.table.nodes a.node h past

pub returns : goal.returns
returns c = let a = c.args in
    λ p h. action_marked a.t.now p a.table.nodes a.node h _ c.requires.1 c.mark.ensures
    (ap is_action c.kind.ensures.0) c.wide-i.ensures.0
