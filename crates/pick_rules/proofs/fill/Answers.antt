-- `pick_rules::fill` meets its contract: the runs of rows have room, and together they say what is allowed. Assumes nothing.
use native.Mathlib.Omega.{arith}
use Rattle.table.proofs.Reading.{read-good}
use Rattle.pick_rules.proofs.Allowed.{filled_says}
use Rattle.pick_rules.proofs.fill.Goals as goal

pub returns : goal.returns
returns c =
    let a = c.args in
    let forks = c.add_forks-forks.ensures in
    let destinations = c.add_destinations.ensures in (
      omega (arith, forks.few, destinations.few, c.requires.2.few),
      λ room x. filled_says a.t.now a.offers a.ends a.kept a.kept x (read-good _ c.requires.1) room c.fill_rivals.ensures forks destinations,
    )
