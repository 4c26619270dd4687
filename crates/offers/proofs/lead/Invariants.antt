-- `offers::lead` meets its contract: the loop has led on the first k paths, as far as there is room. Assumes nothing.
use mathlib.Core.Path.{◌≡◌}
use lib.ListN.{length}
use Rattle.offers.specs.Rows.{Led}
use Rattle.offers.proofs.lead.Given as goal

abbrev pub invariant-loop-k : goal.invariant-loop-k
invariant-loop-k l = ((length l.rows ≡ length l.initial.rows) × Led l.initial.rows l.rows l.count l.at l.j l.k)
