-- `is_open`: it may not be had, or must be. Assumes nothing.
use mathlib.Core.Path.{sym, ◌∙◌}
use borrow.Author.Tests.{not-false}
use Rattle.paper.proofs.Bools.{never}
use Rattle.pick_search.proofs.is_open.Goals as goal

pub returns-then-not-meets : goal.returns-then-not-meets
returns-then-not-meets c = λ e h. never _ h (sym c.meets.ensures ∙ c.if-not-meets.true)

pub returns : goal.returns
returns c = λ e h. sym c.meets-2.ensures ∙ not-false _ e
