-- The first offer on an edge that leaves no control node. Assumes nothing.
use Rattle.std.specs.Prelude.{ℕ, ◌+◌, ◌≤◌, ◌≡◌, cond, List, eqb, length}
use Rattle.paper.specs.Table.{is_object_node}
use Rattle.paper.specs.Bytes.{word_at}
use Rattle.offers_over.specs.declared.Start.{Start}
use Rattle.offers_over.specs.declared.Start.TheVariants.{Nothing, Token, Value}

-- what an edge carries first whose source has kind k, where v is the oldest of the values that its source keeps
unfoldable pub start : ℕ → ℕ → ℕ → ℕ → Start
start k kept tokens v = cond (is_object_node k) (cond (eqb kept 0) Nothing (Value v)) (cond (eqb tokens 0) Nothing Token)

-- it is that, and the oldest value is the one at the place `from`
pub record FirstOffer (b : List ℕ) (k from kept tokens : ℕ) (s : Start) : Type 0 where
  pub oldest : ℕ
  pub start_is : s ≡ start k kept tokens oldest
  pub value-is : from + 4 ≤ length b → oldest ≡ word_at b from
