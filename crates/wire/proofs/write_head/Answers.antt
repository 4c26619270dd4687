-- `write_head` stores the four bytes before the fields. Assumes nothing.
use Rattle.wire.proofs.write_head.Goals as goal

pub returns : goal.returns
returns c = rw c.write16.ensures
