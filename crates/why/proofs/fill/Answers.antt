-- `fill`: the rules of the levels, one after the other. Assumes nothing.
use mathlib.Core.Path.{◌≡◌}
use native.Mathlib.Omega.{arith}
use Rattle.table.proofs.Reading.{read-good}
use Rattle.why.proofs.Nets.{none_asked, own_asked, rivals_asked, forks_asked}
use Rattle.why.proofs.fill.Goals as goal

pub returns-then-k-eq0 : goal.returns-then-k-eq0
returns-then-k-eq0 c =
    (omega arith, λ l room x. rw c.if-k-eq0.true (none_asked c.args.t.now c.args.offers c.args.ends c.args.kept c.args.kept _ c.requires.0 x))

pub returns-then-k-eq1 : goal.returns-then-k-eq1
returns-then-k-eq1 c =
    let h = c.add_destinations.ensures in (
      omega (arith, h.few),
      λ l room x. rw c.if-k-eq1.true (own_asked c.args.t.now c.args.offers c.args.ends c.args.kept c.args.kept (read-good _ c.requires.2) room c.requires.0 h x),
    )

pub returns-then-k-eq2 : goal.returns-then-k-eq2
returns-then-k-eq2 c =
    let h = c.add_destinations-own.ensures in (
      omega (arith, h.few),
      λ l room x. rw c.if-k-eq2.true (rivals_asked c.args.t.now c.args.offers c.args.ends c.args.kept c.args.kept (read-good _ c.requires.2) room
          c.fill_rivals.ensures h x),
    )

pub returns : goal.returns
returns c =
    let own = c.add_destinations-own.ensures in
    let forks = c.add_forks.ensures in (
      omega (arith, own.few, forks.few, c.requires.3.few),
      λ l room x.
          let e : c.args.k ≡ 3 = omega (arith, c.if-k-eq2.false, c.if-k-eq1.false, c.if-k-eq0.false, l) in
          rw e (forks_asked c.args.t.now c.args.offers c.args.ends c.args.kept c.args.kept (read-good _ c.requires.2) room
          c.fill_rivals.ensures own forks x),
    )
