-- `low_high`: two numbers of four bytes of the entry. Assumes nothing.
use Rattle.terms.proofs.BoundLaws.{low_read, high_read}
use Rattle.terms.proofs.bounds.low_high.Goals as goal

pub returns : goal.returns
returns c = let a = c.args in (low_read a.x.now a.k _ c.read32.ensures, high_read a.x.now a.k _ c.read32-2.ensures)
