-- Row 14: when an action runs, word by word. Assumes nothing.
use mathlib.Core.Path.{◌≡◌, refl, sym}
use mathlib.Core.Bool.{Bool, true, false, ◌&&◌}
use mathlib.Core.List.{List}
use Prim.Native.Nat.{ℕ, ◌≤◌, ◌<◌}
use lib.Dec.{ltb, eqb}
use borrow.Author.Tests.{ltb-true, lt-ltb, le-ltb, ne_eqb}
use Rattle.paper.specs.Lists.{one_if}
use Rattle.paper.specs.Table.{nodes, kind, is_action}
use Rattle.paper.specs.Marking.{Marking}
use Rattle.paper.proofs.Bools.{and-true}
use Rattle.paper.proofs.Bytes.{flag_back}
use Rattle.start_finish.specs.Running.{runs_in}

pub no_node : (t : List ℕ) (m : Marking) (a : ℕ) → nodes t ≤ a → runs_in t m a ≡ false
no_node t m a l = rw (le-ltb a (nodes t) l)

pub no_action : (t : List ℕ) (m : Marking) (a : ℕ) → (kind t a ≡ 2 → ⊥) → runs_in t m a ≡ false
no_action t m a n = rw (ne_eqb (kind t a) 2 n) (by (ltb a (nodes t)) (m.runs a))
  where
    by : (c d : Bool) → (c && false) && d ≡ false
    by true d = refl
    by false d = refl

-- an action that runs is a node, and an action
pub running-node : (t : List ℕ) (m : Marking) (a : ℕ) → runs_in t m a ≡ true → (a < nodes t) × (is_action (kind t a) ≡ true)
running-node t m a h =
    let both = and-true (ltb a (nodes t)) (is_action (kind t a)) (and-true (ltb a (nodes t) && is_action (kind t a)) _ h).0 in
    (ltb-true a (nodes t) both.0, both.1)

-- the running byte says it
pub runs_as : (t : List ℕ) (m : Marking) (a r : ℕ) → a < nodes t → kind t a ≡ 2 → r ≡ one_if (m.runs a) → runs_in t m a ≡ eqb r 1
runs_as t m a r l k e = rw (lt-ltb a (nodes t) l, k, e) (sym (flag_back (m.runs a)))
