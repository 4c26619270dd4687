-- `list_direct`: the invariant says that what is listed is asked for. Assumes nothing.
use lib.Bits.{bit_and}
use borrow.Author.Rules.{rules}
use Rattle.pick_bounds.specs.Bounds.{good}
use Rattle.pick_demands.proofs.Demands.{asks-rule}
use Rattle.pick_demands.proofs.list_direct.Goals as goal

pub loop-i-preserved : goal.loop-i-preserved
loop-i-preserved c = let a = c.args in
    let l = c.loop-i in
    let rule = c.rule_at-rule in
    let lack = c.lack in
    let open-ends = c.without-open in
    let note = c.note-count in
    (note.ensures.0, note.ensures.1 (good a.net.now a.want) a.b l.invariant.1 (asks-rule a.net.now a.want a.b l.i (search rules) rule.result rule.ensures (bit_and open-ends.result rule.result.only) lack.result (lack.ensures open-ends.result open-ends.ensures)))
