-- `pick_rules::add_forks` meets its contract: the rows say what they must of the offers from z on. Assumes nothing.
use Rattle.pick_rules.specs.Rules.{AddedFrom, fork_kept}
use Rattle.pick_rules.proofs.add_forks.Given as goal

abbrev pub invariant-loop-z : goal.invariant-loop-z
invariant-loop-z l = AddedFrom l.initial.net l.count l.net l.r l.ends.count (fork_kept l.t l.node l.parents l.makers l.rows l.ends.count) l.z l.rows
