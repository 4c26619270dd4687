-- `offers_join::rivals_of` meets its contract: the loop has marked the rows below j that compete with row i. Assumes nothing.
use Rattle.offers.specs.Sets.{Marks, words_clash}
use Rattle.offers.specs.Rows.{cell}
use Rattle.offers_join.proofs.rivals_of.Given as goal

abbrev pub invariant-loop-j : goal.invariant-loop-j
invariant-loop-j l = Marks (λ x. words_clash l.f l.m (cell l.rows x 7) (cell l.rows x 6)) l.j l.d
