-- `ranks` meets its contract: ranks tell chains of up to k nodes. Assumes nothing.
use Rattle.paper.specs.Limits.{limits}
use Rattle.table.proofs.Reading.{blank}
use borrow.Author.Rules.{rules}
use Rattle.table_ranks.proofs.ranks.Goals as goal

pub list_links-n-requires : goal.list_links-n-requires
list_links-n-requires c = (c.requires, c.mark_control.ensures (blank limits.most_nodes), search rules, search rules)

pub loop-k-init : goal.loop-k-init
loop-k-init c = (search rules, c.mark_control.ensures (blank limits.most_nodes))
