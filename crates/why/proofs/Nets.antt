-- The net of a level says what the levels up to it ask, past that of taking an end: the rules of a node's own, rivals, forks, in the order of the levels.
-- Assumes of the table that it is good, and of the stocks that they are within their uppers.
use mathlib.Core.Path.{◌≡◌, refl, ◌∙◌}
use mathlib.Core.Bool.{Bool, true, false, ◌&&◌}
use mathlib.Core.List.{List, [], ◌∷◌}
use Prim.Native.Nat.{ℕ}
use Rattle.paper.specs.Lists.{below}
use Rattle.paper.specs.Limits.{limits}
use Rattle.paper.specs.Operations.{left}
use Rattle.paper.proofs.Tables.{GoodTable}
use Rattle.table.specs.Reading.{Blank}
use Rattle.offers.specs.declared.Offers.{Offers}
use Rattle.ends_masks.specs.Seating.{destinations_fit, no_rivals, forks_whole}
use Rattle.ends_masks.specs.declared.Ends.{Ends}
use Rattle.pick_rules.specs.Rules.{holds, Starts, RulesAdded, AddedUpto, Roomy, on_each, clash_kept, fork_kept, destination_tests}
use Rattle.pick_rules.proofs.Rows.{added_then, started_then, blank-starts}
use Rattle.why.specs.Reasons.{asks}
use Rattle.pick_rules.proofs.Allowed.{alike_then, clashes_say, forks_say, destinations_alike}

swap : (a b x : Bool) → a && (b && x) ≡ b && (a && x)
swap true b x = refl
swap false true x = refl
swap false false x = refl

module _ (t : List ℕ) (o : Offers) (es : Ends) (runs stock : List ℕ) where
  abbrev asked : List (ℕ → Bool)
  asked = asks t o es runs stock

  abbrev own_tests : List (ℕ → Bool)
  own_tests = destination_tests t es.edge es.target es.home runs stock es.count

  abbrev rival_test : ℕ → Bool
  rival_test = on_each (clash_kept es.foes es.makers es.count) (below es.count)

  pub none_asked : (net : List ℕ) → Blank net → (c : ℕ) → holds net 0 es.count c ≡ left asked 0 c
  unfolding left
  none_asked net b c = (blank-starts net es.count b).says c

  module _ (g : GoodTable t limits) (room : Roomy t stock) where
    pub own_asked : {net after : List ℕ} {r most : ℕ} → Blank net → RulesAdded net 0 after r most es.count own_tests → (c : ℕ) → holds after r es.count c ≡ left asked 1 c
    unfolding left
    own_asked {net} b h c =
        started_then (blank-starts net es.count b) h c ∙ (destinations_alike t o es runs stock c g room).same

    pub rivals_asked : {net after : List ℕ} {r most : ℕ} → Starts net es.count (rival_test ∷ []) → RulesAdded net 0 after r most es.count own_tests → (c : ℕ) → holds after r es.count c ≡ left asked 2 c
    unfolding left
    rivals_asked h i c =
        started_then h i c
        ∙ (alike_then (clashes_say t o es runs stock c g room)
        (destinations_alike t o es runs stock c g room)).same
        ∙ swap (no_rivals es.foes es.makers es.count c) (destinations_fit t es.edge es.target es.home runs stock es.count c) true

    pub forks_asked : {net own after : List ℕ} {r s most : ℕ} → Starts net es.count (rival_test ∷ []) → RulesAdded net 0 own r most es.count own_tests
        → AddedUpto own r after s es.count (fork_kept t o.node o.parents es.makers o.count es.count) o.count → (c : ℕ) → holds after s es.count c ≡ left asked 3 c
    unfolding left
    forks_asked h i j c =
        started_then h (added_then i j) c
        ∙ (alike_then (clashes_say t o es runs stock c g room)
        (alike_then (destinations_alike t o es runs stock c g room)
        (forks_say t o es runs stock c g room))).same
        ∙ swap (no_rivals es.foes es.makers es.count c) (destinations_fit t es.edge es.target es.home runs stock es.count c) (forks_whole t o.node o.parents es.makers o.count es.count c && true)
