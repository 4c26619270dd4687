-- `size` is the head, the nodes' fields and the edges' counts. Assumes nothing.
use Rattle.table.proofs.Reading.{read-spans}
use Rattle.marking_write.specs.Writing.{size_of}
use borrow.Author.Rules.{rules}
use Rattle.marking_write.proofs.size.Goals as goal

pub nodes_size-requires : goal.nodes_size-requires
nodes_size-requires c = (read-spans c.args.t.now c.requires.0, c.requires.1, c.requires.2)

pub returns : goal.returns
unfolding size_of
returns c = search rules
