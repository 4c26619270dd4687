-- `ends_masks::columns` meets its contract: the loop has filled the three columns below k, and their lengths stand. Assumes nothing.
use Rattle.ends_masks.specs.Seating.{Columns}
use Rattle.ends_masks.proofs.columns.Given as goal

abbrev pub invariant-loop-k : goal.invariant-loop-k
invariant-loop-k l = Columns l.t l.rows l.ends l.edge l.target l.home l.k
