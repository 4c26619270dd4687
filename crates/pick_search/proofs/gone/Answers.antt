-- `gone`: the end alone, or with those that can change places with it. Assumes nothing.
use mathlib.Core.Path.{sym, ◌∙◌}
use Rattle.pick_bounds.specs.Bounds.{good}
use Rattle.pick_scout.proofs.Scouting.{found-none}
use Rattle.pick_search.proofs.Searching.{alone, twinned}
use Rattle.pick_search.proofs.gone.Goals as goal

pub returns-then-is_ok : goal.returns-then-is_ok
returns-then-is_ok c = λ q h x e u i. alone x c.args.k c.args.end q i

pub returns : goal.returns
returns c = λ q h. let a = c.args in
    let none = h (found-none _ (sym c.is_ok.ensures.value ∙ c.if-is_ok.false)) in
    twinned (good a.net.now a.want) a.b a.k a.end c.twins.result q (c.twins.ensures none)
