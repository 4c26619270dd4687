-- What the reader of value lists answers, and what it notes. Assumes nothing.
use Rattle.std.specs.Prelude.{ℕ, ◌+◌, ◌*◌, ◌≤◌, ◌<◌, ◌≡◌, Bool, ◌&&◌, cond, List, [], ◌∷◌, eqb, length, take, drop, Result}
use Rattle.std.proofs.Math.Option.{Option as Maybe, none, some}
use Rattle.paper.specs.Lists.{at, below, keep, gather}
use Rattle.paper.specs.Answers.{refused, good}
use Rattle.paper.specs.Bytes.{four}
use Rattle.paper.specs.Table.{nodes, kind, owner}
use Rattle.paper.specs.Operations.{list_for}
use Rattle.wire.specs.declared.Refusal.{Refusal}
use Rattle.wire.specs.Refusals.{said}

-- nodes of kind k that belong to o have a list each: incoming parameters (6, which belong to none), or an action's output pins (4)
abbrev pub is_listed : List ℕ → ℕ → ℕ → ℕ → Bool
is_listed t k o i = eqb (kind t i) k && eqb (owner t i) o

unfoldable pub listed_nodes : List ℕ → ℕ → ℕ → List ℕ
listed_nodes t k o = keep (is_listed t k o) (below (nodes t))

-- the node itself, if it has a list
abbrev pub listed_at : List ℕ → ℕ → ℕ → ℕ → List ℕ
listed_at t k o i = cond (is_listed t k o i) (i ∷ []) []

-- the values vs stand in b from place p on, n of them
pub record ValuesNoted (b vs : List ℕ) (p n : ℕ) : Type 0 where
  pub many : n ≡ length vs
  pub stand : gather four vs ≡ take (4 * n) (drop p b)
  pub inside : p + 4 * n ≤ length b

-- row 15, and where each node's values stand
abbrev pub ValuesRead : List ℕ → ℕ → ℕ → List ℕ → List ℕ → List ℕ → Maybe (List (List ℕ)) → Result (Unit {0}) Refusal → Type 0
ValuesRead t k o b place more none r = said r ≡ refused 15 0
ValuesRead t k o b place more (some vss) r =
    (said r ≡ good tt) × ((i : ℕ) → i < nodes t → ValuesNoted b (list_for i (listed_nodes t k o) vss) (at place i) (at more i))
