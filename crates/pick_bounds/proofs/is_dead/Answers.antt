-- `is_dead`: `must` is not within `may`. Assumes nothing.
use borrow.Author.Tests.{not-true, eqb-false}
use Rattle.pick_bounds.proofs.Pruning.{none_apart}
use borrow.Author.Rules.{rules}
use Rattle.pick_bounds.proofs.is_dead.Goals as goal

pub returns : goal.returns
returns c = λ e. let a = c.args in
    none_apart a.b (search rules) (eqb-false _ _ (not-true _ e))
