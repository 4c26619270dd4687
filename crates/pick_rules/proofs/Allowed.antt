-- The rows of the net, taken together, say what is allowed. Assumes of the table that it is good, and of the stocks that they are within their uppers.
use mathlib.Core.Path.{◌≡◌, refl, sym, ap, ap₂, ◌∙◌}
use mathlib.Core.Bool.{Bool, true, false, not, ◌&&◌, ◌||◌}
use mathlib.Core.List.{List, [], ◌∷◌, ◌++◌}
use Prim.Native.Nat.{ℕ, ◌+◌, ◌-◌, ◌≤◌, ◌<◌}
use native.Mathlib.Omega.{arith}
use lib.Dec.{leb, ltb, eqb}
use borrow.Author.Tests.{eq-eqb, eqb-true, ltb-true, lt-ltb, leb-true, le-leb}
use Rattle.paper.specs.Lists.{at, below, all, keep, within, ◌⇒◌}
use Rattle.paper.specs.Answers.{good}
use Rattle.paper.specs.Limits.{limits}
use Rattle.paper.specs.Table.{nodes, edges, kind, owner, lower, upper, into, inputs, is_action, is_input, is_fork, is_buffer, is_outgoing, target as targetOfEdge}
use Rattle.paper.proofs.Bools.{and-true, and_both, iff, if_true}
use Rattle.paper.proofs.Counts.{all_append}
use Rattle.paper.proofs.Lists.{all-below, below_all}
use Rattle.paper.proofs.Members.{all_in, in_all, in_keep-below, keep_in, below_in}
use Rattle.paper.proofs.Tables.{GoodTable}
use Rattle.table.specs.Reading.{table_read}
use Rattle.table.specs.declared.Table.{Table}
use Rattle.table.proofs.Reading.{read-good, read-spans}
use Rattle.offers.specs.declared.Offers.{Offers}
use Rattle.ends_masks.specs.declared.Ends.{Ends}
use Rattle.ends_masks.proofs.Rules.{if_so}
use Rattle.ends_masks.specs.Seating.{kept, passed, seats, served, action_fits, fits, no_rivals, forks_whole, destinations_fit, allowed}
use Rattle.pick_rules.specs.Rules.{holds, all_pass, on_each, Starts, RulesAdded, AddedUpto, Roomy, clash_kept, fork_kept, edge_kept, idle_kept, pin_kept, store_kept, destination_tests}
use Rattle.pick_rules.proofs.Rows.{added_then, started_then}
use Rattle.pick_rules.proofs.Destinations.{edge_part, idle_part, seat_part, tests_say}

-- a store has room for x more
room_for : (x stock upper : ℕ) → stock ≤ upper → leb (stock + x) upper ≡ leb x (upper - stock)
room_for x stock upper l =
    iff _ _ (λ h. let z = leb-true (stock + x) upper h in le-leb x (upper - stock) (omega arith))
    (λ h. let z = leb-true x (upper - stock) h in le-leb (stock + x) upper (omega arith))

-- ---- rule 2
module _ (t node parents makers : List ℕ) (rows n c : ℕ) where
  abbrev fork_part : Bool
  fork_part = all (λ z. fork_kept t node parents makers rows n z c) (below rows)

  abbrev fork_rule : Bool
  fork_rule = forks_whole t node parents makers rows n c

  split : (a b : Bool) → not (a && not b) ≡ a ⇒ b
  split true true = refl
  split true false = refl
  split false b = refl

  fork_there : fork_part ≡ true → fork_rule ≡ true
  unfolding fork_kept forks_whole passed
  fork_there h =
      below_all _ (nodes t)
      (λ i l.
      split (is_fork (kind t i)) (all (λ z. eqb (at node z) i ⇒ kept node parents makers rows n c z) (below rows))
      ∙ if_so (is_fork (kind t i)) _
      (λ f.
      below_all (λ z. eqb (at node z) i ⇒ kept node parents makers rows n c z) rows
      (λ z g.
      if_so (eqb (at node z) i) _
      (λ e.
      let q = eqb-true (at node z) i e in
      if_true _ _ (all-below _ rows h z g) (and_both _ _ (lt-ltb (at node z) (nodes t) (omega arith)) (ap (λ (j : ℕ). is_fork (kind t j)) q ∙ f))))))

  fork_back : fork_rule ≡ true → fork_part ≡ true
  unfolding fork_kept forks_whole passed
  fork_back h =
      below_all _ rows
      (λ z g.
      if_so (ltb (at node z) (nodes t) && is_fork (kind t (at node z))) _
      (λ e.
      let q = and-true (ltb (at node z) (nodes t)) _ e in
      let p = if_true (is_fork (kind t (at node z))) _ (sym (split (is_fork (kind t (at node z))) _) ∙ all-below _ (nodes t) h (at node z) (ltb-true (at node z) (nodes t) q.0)) q.1 in
      if_true (eqb (at node z) (at node z)) _ (all-below _ rows p z g) (eq-eqb (at node z) (at node z) refl)))

-- ---- rule 3
-- an input pin belongs to an action
pub owns : (t : List ℕ) → GoodTable t limits → (i : ℕ) → i < nodes t → is_input (kind t i) ≡ true → (owner t i < nodes t) × (is_action (kind t (owner t i)) ≡ true)
owns t g i l e =
    let o = (g.node i l).owner-fine in
    let q = and-true (ltb (owner t i) (nodes t)) (is_action (kind t (owner t i))) (rw e at o) in
    (ltb-true (owner t i) (nodes t) q.0, q.1)

pub owner-inside : (t : List ℕ) {table : Table} → table_read t ≡ good table → (i : ℕ) → i < table.nodes → kind t i ≡ 3 → owner t i < table.nodes
owner-inside t r i l e =
    let s = read-spans _ r in
    let o = (owns t (read-good _ r) i (omega (arith, s.nodes-read)) (ap is_input e)).0 in
    omega (arith, s.nodes-read)

module _ (t edge target home runs stock : List ℕ) (n c : ℕ) where
  abbrev edges_kept : Bool
  edges_kept = edge_part t edge target home runs stock n c

  abbrev all_idle : Bool
  all_idle = idle_part t edge target home runs stock n c

  abbrev all_seated : Bool
  all_seated = seat_part t edge target home runs stock n c

  abbrev fit_rule : Bool
  fit_rule = destinations_fit t edge target home runs stock n c

  unfoldable starts : ℕ → Bool
  starts i = is_action (kind t i) && served target home n c i

  unfoldable stores : ℕ → Bool
  stores i = is_buffer (kind t i) || is_outgoing (kind t i)

  -- ---- what the tests of a node are made of
  fit_facts : (i : ℕ) → fits t edge target home runs stock n c i ≡ true
      → (starts i ≡ true → action_fits t edge target home runs stock n c i ≡ true) × (stores i ≡ true → leb (at stock i + seats target n c i) (upper t i) ≡ true)
  unfolding fits starts stores
  fit_facts i h =
      let a = and-true (starts i ⇒ action_fits t edge target home runs stock n c i) _ h in
      (if_true (starts i) _ a.0, if_true (stores i) _ a.1)

  abbrev edges_fit : ℕ → Bool
  edges_fit i = all (λ e. eqb (seats edge n c e) 1) (keep (λ j. eqb (targetOfEdge t j) i) (below (edges t)))

  abbrev pins_fit : ℕ → Bool
  pins_fit i = all (λ p. within (lower t p) (upper t p) (seats target n c p)) (keep (λ p. is_input (kind t p) && eqb (owner t p) i) (below (nodes t)))

  action_facts : (i : ℕ) → action_fits t edge target home runs stock n c i ≡ true → (eqb (at runs i) 0 ≡ true) × (edges_fit i ≡ true) × (pins_fit i ≡ true)
  unfolding action_fits into inputs
  action_facts i h =
      let a = and-true (eqb (at runs i) 0 && edges_fit i) (pins_fit i) h in
      let b = and-true (eqb (at runs i) 0) (edges_fit i) a.0 in
      (b.0, b.1, a.1)

  -- ---- from the rows to the rule
  action_there : edges_kept ≡ true → all_idle ≡ true → all_seated ≡ true → (i : ℕ) → i < nodes t → starts i ≡ true → action_fits t edge target home runs stock n c i ≡ true
  unfolding edge_kept idle_kept pin_kept action_fits into inputs starts
  action_there he hi hs i l s =
      and_both (eqb (at runs i) 0 && edges_fit i) (pins_fit i)
      (and_both (eqb (at runs i) 0) (edges_fit i) (if_true (starts i) (eqb (at runs i) 0) (all-below _ (nodes t) hi i l) s)
      (in_all (λ e. eqb (seats edge n c e) 1) (keep (λ j. eqb (targetOfEdge t j) i) (below (edges t)))
      (λ e m.
      let r = in_keep-below (λ j. eqb (targetOfEdge t j) i) (edges t) m in
      let z = eqb-true (targetOfEdge t e) i r.1 in
      let there : starts (targetOfEdge t e) ≡ true = rw z s in
      if_true (starts (targetOfEdge t e)) _ (all-below _ (edges t) he e r.0) there)))
      (in_all (λ p. within (lower t p) (upper t p) (seats target n c p)) (keep (λ p. is_input (kind t p) && eqb (owner t p) i) (below (nodes t)))
      (λ p m.
      let r = in_keep-below (λ p. is_input (kind t p) && eqb (owner t p) i) (nodes t) m in
      let u = and-true (is_input (kind t p)) _ r.1 in
      let z = eqb-true (owner t p) i u.1 in
      let there : served target home n c (owner t p) ≡ true = rw z (and-true (is_action (kind t i)) (served target home n c i) s).1 in
      if_true (is_input (kind t p) && served target home n c (owner t p)) _ (and-true _ _ (all-below _ (nodes t) hs p r.0)).0 (and_both _ _ u.0 there)))

  module _ (g : GoodTable t limits) (room : Roomy t stock) where
    fit_there : edges_kept ≡ true → all_idle ≡ true → all_seated ≡ true → fit_rule ≡ true
    unfolding destinations_fit store_kept fits starts stores
    fit_there he hi hs =
        below_all _ (nodes t)
        (λ i l.
        and_both (starts i ⇒ action_fits t edge target home runs stock n c i) (stores i ⇒ leb (at stock i + seats target n c i) (upper t i))
        (if_so (starts i) _ (action_there he hi hs i l))
        (if_so (stores i) _
        (λ s.
        room_for (seats target n c i) (at stock i) (upper t i) (room i l s)
        ∙ if_true (stores i) _ (and-true (pin_kept t target home runs stock n i c) _ (all-below _ (nodes t) hs i l)).1 s)))

    -- ---- from the rule to the rows
    edge_back : fit_rule ≡ true → edges_kept ≡ true
    unfolding destinations_fit edge_kept starts
    edge_back h =
        below_all _ (edges t)
        (λ e l.
        let i = targetOfEdge t e in
        if_so (starts i) _
        (λ s.
        let f = (fit_facts i (all-below _ (nodes t) h i (g.edge e l).target_fits)).0 s in
        all_in (λ e. eqb (seats edge n c e) 1) (action_facts i f).1 (keep_in (λ j. eqb (targetOfEdge t j) i) (below_in (edges t) l) (eq-eqb i i refl))))

    idle_back : fit_rule ≡ true → all_idle ≡ true
    unfolding destinations_fit idle_kept starts
    idle_back h = below_all _ (nodes t) (λ i l. if_so (starts i) _ (λ s. (action_facts i ((fit_facts i (all-below _ (nodes t) h i l)).0 s)).0))

    seats_back : fit_rule ≡ true → all_seated ≡ true
    unfolding destinations_fit pin_kept store_kept starts stores
    seats_back h =
        below_all _ (nodes t)
        (λ i l.
        and_both (pin_kept t target home runs stock n i c) (store_kept t target home runs stock n i c)
        (if_so (is_input (kind t i) && served target home n c (owner t i)) _
        (λ s.
        let p = owner t i in
        let q = and-true (is_input (kind t i)) _ s in
        let o = owns t g i l q.0 in
        let a = (fit_facts p (all-below _ (nodes t) h p o.0)).0 (and_both _ _ o.1 q.1) in
        all_in (λ p. within (lower t p) (upper t p) (seats target n c p)) (action_facts p a).2
        (keep_in (λ j. is_input (kind t j) && eqb (owner t j) p) (below_in (nodes t) l) (and_both _ _ q.0 (eq-eqb p p refl)))))
        (if_so (stores i) _
        (λ s. sym (room_for (seats target n c i) (at stock i) (upper t i) (room i l s)) ∙ (fit_facts i (all-below _ (nodes t) h i l)).1 s)))

    destinations_say : all_pass (destination_tests t edge target home runs stock n) c ≡ destinations_fit t edge target home runs stock n c
    destinations_say =
        tests_say t edge target home runs stock n c
        ∙ iff _ _
        (λ h.
        let p = and-true edges_kept _ h in
        let q = and-true all_idle _ p.1 in
        fit_there p.0 q.0 q.1)
        (λ h. and_both edges_kept _ (edge_back h) (and_both all_idle _ (idle_back h) (seats_back h)))

-- ---- all of them, rule by rule
-- of the choice c, the tests say what the rules do
pub record Alike (ps rules : List (ℕ → Bool)) (c : ℕ) : Type 0 where
  pub same : all_pass ps c ≡ all_pass rules c

-- tests that say what one rule does, before tests that say what the others do
pub alike_then : {ps qs rules : List (ℕ → Bool)} {r : ℕ → Bool} {c : ℕ} → Alike ps (r ∷ []) c → Alike qs rules c → Alike (ps ++ qs) (r ∷ rules) c
alike_then {ps} {qs} {rules} {r} {c} e f = record {
  same = all_append (λ p. p c) ps qs ∙ ap₂ (λ (x y : Bool). x && y) (e.same ∙ mathlib.Core.Bool.and-true (r c)) f.same;
}

module _ (t : List ℕ) (o : Offers) (es : Ends) (runs stock : List ℕ) (c : ℕ) (g : GoodTable t limits) (room : Roomy t stock) where
  abbrev clashes : ℕ → Bool
  clashes = on_each (clash_kept es.foes es.makers es.count) (below es.count)

  abbrev forks : ℕ → Bool
  forks = on_each (fork_kept t o.node o.parents es.makers o.count es.count) (below o.count)

  pub clashes_say : Alike (clashes ∷ []) (no_rivals es.foes es.makers es.count ∷ []) c
  unfolding clash_kept no_rivals
  clashes_say = record { same = refl }

  pub forks_say : Alike (forks ∷ []) (forks_whole t o.node o.parents es.makers o.count es.count ∷ []) c
  forks_say = record { same = ap (λ (b : Bool). b && true) (iff _ _ (fork_there t o.node o.parents es.makers o.count es.count c) (fork_back t o.node o.parents es.makers o.count es.count c)) }

  pub destinations_alike : Alike (destination_tests t es.edge es.target es.home runs stock es.count) (destinations_fit t es.edge es.target es.home runs stock es.count ∷ []) c
  destinations_alike = record { same = destinations_say t es.edge es.target es.home runs stock es.count c g room ∙ sym (mathlib.Core.Bool.and-true (destinations_fit t es.edge es.target es.home runs stock es.count c)) }

  rules_say : all_pass ((clashes ∷ []) ++ ((forks ∷ []) ++ destination_tests t es.edge es.target es.home runs stock es.count)) c
      ≡ allowed t o es runs stock c
  unfolding allowed
  rules_say = (alike_then clashes_say (alike_then forks_say destinations_alike)).same

  -- so the runs of rows, one after the other, say it
  pub filled_says : {l₁ l₂ l₃ : List ℕ} {r₂ r₃ most : ℕ} → Starts l₁ es.count (clashes ∷ []) → AddedUpto l₁ 0 l₂ r₂ es.count (fork_kept t o.node o.parents es.makers o.count es.count) o.count
      → RulesAdded l₂ r₂ l₃ r₃ most es.count (destination_tests t es.edge es.target es.home runs stock es.count)
      → holds l₃ r₃ es.count c ≡ allowed t o es runs stock c
  filled_says h i j = started_then h (added_then i j) c ∙ rules_say
