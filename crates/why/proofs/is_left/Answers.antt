-- `is_left`: a choice is found, or there is none. Assumes nothing.
use Prim.Native.Nat.{suc}
use Rattle.paper.specs.Operations.{levels}
use Rattle.paper.specs.Choices.{how_many}
use Rattle.why.proofs.Asked.{whether-found}
use Rattle.why.proofs.is_left.Goals as goal

pub find-requires : goal.find-requires
find-requires c = c.requires

pub returns : goal.returns
returns c = λ l d s. let a = c.args in
    whether-found (levels d a.node) (how_many d) (suc a.k) c.find.result (c.find.ensures l d s) _ c.is_some.ensures
