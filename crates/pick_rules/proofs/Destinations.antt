-- The tests of rule 3 say what is kept at every edge and node: those that have ends have a row, which comes with the first of them, and those that have
-- none bar the ends that need one there. Assumes nothing.
use mathlib.Core.Path.{◌≡◌, refl, sym, ap, ap₂, ◌∙◌}
use mathlib.Core.Logic.{⊎_elim}
use mathlib.Core.Bool.{Bool, true, false, not, ◌&&◌, ◌||◌}
use mathlib.Core.List.{List, [], ◌∷◌}
use mathlib.Core.Option.{Option, none, some}
use Prim.Native.Nat.{ℕ, ◌-◌, ◌≤◌, ◌<◌}
use native.Mathlib.Omega.{arith}
use lib.Bits.{bit_or}
use lib.Dec.{leb, ltb, eqb}
use borrow.Author.Tests.{eqb-true, ltb-true, lt-ltb, leb-true, leb-false, le-leb, not-true}
use Rattle.paper.specs.Lists.{at, has, below, all, any, count, lowest}
use Rattle.paper.specs.Table.{nodes, edges, kind, owner, lower, upper, is_action, is_input, is_buffer, is_outgoing, target as targetOfEdge}
use Rattle.paper.proofs.Bools.{never, and-true, and_both, and_never, iff, if_true, true_or_false, false_if}
use Rattle.paper.proofs.Counts.{any-below-none}
use Rattle.paper.proofs.Lists.{all-below, below_all, lowest-is, lowest-is-none}
use Rattle.paper.proofs.Members.{below_in, any_none, any-count}
use Rattle.paper.specs.Limits.{limits}
use Rattle.pick_bounds.specs.Net.{rule, obeys}
use Rattle.ends_masks.proofs.Rules.{if_so}
use Rattle.ends_masks.specs.Seating.{seats, served}
use Rattle.pick_rules.specs.Rules.{all_pass, on_each, RulesAdded, AddedUpto, BarredEnds, vacant, leads, first_row, edge_kept, edge_row, edge_bar, idle_kept, pin_kept, store_kept, seats_kept, target_row, pin_bar, node_bar, bars_kept, destination_tests}
use Rattle.pick_rules.proofs.Rows.{added_then, added_alike, added_same}
use Rattle.pick_rules.proofs.Masks.{bars_or, bars_all, bars_row}

-- ---- places that have ends, by the first of them, and those that have none
-- the first number below n that passes
first_of : (p : ℕ → Bool) (n : ℕ) → any p (below n) ≡ true → (k : ℕ) × (k < n) × (p k ≡ true) × ((j : ℕ) → j < k → p j ≡ false)
first_of p n h = by (lowest p n) refl
  where
    by : (o : Option ℕ) → lowest p n ≡ o → (k : ℕ) × (k < n) × (p k ≡ true) × ((j : ℕ) → j < k → p j ≡ false)
    by none e = never (any p (below n)) h (any-below-none p n (lowest-is-none p n e))
    by (some k) e = let l = lowest-is p n k e in (k, omega (arith, l.below_n), l.passes, λ j g. l.none-lower j (omega arith) g)

module _ (column : List ℕ) (n most : ℕ) (keeps bar : ℕ → Bool) where
  abbrev row_at : ℕ → Bool
  row_at = first_row column most keeps

  -- a place that has ends: the row of the first says what is kept there
  led : all row_at (below n) ≡ true → (x : ℕ) → x < most → any (λ k. eqb (at column k) x) (below n) ≡ true → keeps x ≡ true
  led h x l e =
      let f = first_of (λ k. eqb (at column k) x) n e in
      let k = f.0 in
      let z = eqb-true (at column k) x f.2 in
      let lead : leads column k ≡ true = ap not (any-below-none (λ j. eqb (at column j) (at column k)) k (λ j g. ap (eqb (at column j)) z ∙ f.3 j g)) in
      ap keeps (sym z) ∙ if_true (ltb (at column k) most && leads column k) _ (all-below row_at n h k f.1) (and_both _ _ (lt-ltb (at column k) most (omega arith)) lead)

  pub by_ends : ((x : ℕ) → vacant column n x ≡ true → bar x ≡ true → keeps x ≡ true) → ((x : ℕ) → keeps x ≡ true → bar x ≡ true)
      → all row_at (below n) && all bar (below most) ≡ all keeps (below most)
  by_ends there back =
      iff _ _
      (λ h.
      let q = and-true (all row_at (below n)) (all bar (below most)) h in
      below_all keeps most
      (λ x l.
      ⊎_elim (led q.0 x l) (λ e. there x (ap not e) (all-below bar most q.1 x l)) (true_or_false (any (λ k. eqb (at column k) x) (below n)))))
      (λ h.
      and_both _ _
      (below_all row_at n (λ k l. if_so (ltb (at column k) most && leads column k) _ (λ e. all-below keeps most h (at column k) (ltb-true (at column k) most (and-true (ltb (at column k) most) _ e).0))))
      (below_all bar most (λ x l. back x (all-below keeps most h x l))))

-- no end is at a place without ends
none-seated : (column : List ℕ) (n c x : ℕ) → vacant column n x ≡ true → seats column n c x ≡ 0
unfolding seats
none-seated column n c x v =
    let none : any (λ k. eqb (at column k) x) (below n) ≡ false = not-true _ v in
    let e : any (λ k. has c k && eqb (at column k) x) (below n) ≡ false =
    any-below-none (λ k. has c k && eqb (at column k) x) n (λ k l. ap (λ (b : Bool). has c k && b) (any_none (λ k. eqb (at column k) x) none (below_in n l)) ∙ and_never (has c k)) in
    let z = leb-false 1 (count (λ k. has c k && eqb (at column k) x) (below n)) (sym (any-count (λ k. has c k && eqb (at column k) x) (below n)) ∙ e) in
    omega arith

all_both : (p q : ℕ → Bool) (xs : List ℕ) → all (λ x. p x && q x) xs ≡ all p xs && all q xs
all_both p q [] = refl
all_both p q (x ∷ xs) = by (p x) (q x) (all p xs) (all q xs) (all (λ x. p x && q x) xs) (all_both p q xs)
  where
    by : (a b c d e : Bool) → e ≡ c && d → (a && b) && e ≡ (a && c) && (b && d)
    by true true c d e h = h
    by true false true d e h = refl
    by true false false d e h = refl
    by false b c d e h = refl

-- ---- rule 3
module _ (t edge target home runs stock : List ℕ) (n c : ℕ) where
  abbrev pub edge_part : Bool
  edge_part = on_each (edge_kept t edge target home n) (below (edges t)) c

  abbrev pub idle_part : Bool
  idle_part = on_each (idle_kept t target home runs stock n) (below (nodes t)) c

  abbrev pub seat_part : Bool
  seat_part = on_each (seats_kept t target home runs stock n) (below (nodes t)) c

  -- edges with and without ends
  edges_say : on_each (edge_row t edge target home n) (below n) c && on_each (edge_bar t edge target home n) (below (edges t)) c ≡ edge_part
  unfolding edge_bar edge_kept
  edges_say =
      by_ends edge n (edges t) (λ e. edge_kept t edge target home n e c) (λ e. edge_bar t edge target home n e c)
      (λ e v b.
      if_so (is_action (kind t (targetOfEdge t e)) && served target home n c (targetOfEdge t e)) _
      (λ s.
      let q = and-true (is_action (kind t (targetOfEdge t e))) _ s in
      never (served target home n c (targetOfEdge t e)) q.1 (not-true _ (if_true (is_action (kind t (targetOfEdge t e)) && vacant edge n e) _ b (and_both _ _ q.0 v)))))
      (λ e h.
      if_so (is_action (kind t (targetOfEdge t e)) && vacant edge n e) _
      (λ s.
      let q = and-true (is_action (kind t (targetOfEdge t e))) _ s in
      ap not
      (false_if (served target home n c (targetOfEdge t e))
      (λ r.
      let one = eqb-true (seats edge n c e) 1 (if_true (is_action (kind t (targetOfEdge t e)) && served target home n c (targetOfEdge t e)) _ h (and_both _ _ q.0 r)) in
      let zero = none-seated edge n c e q.1 in
      omega arith))))

  -- pins and stores with and without ends
  seats_say : on_each (target_row t target home runs stock n) (below n) c && on_each (pin_bar t target home runs stock n) (below (nodes t)) c ≡ seat_part
  unfolding pin_bar pin_kept store_kept
  seats_say =
      by_ends target n (nodes t) (λ i. seats_kept t target home runs stock n i c) (λ i. pin_bar t target home runs stock n i c)
      (λ i v b.
      let zero = none-seated target n c i v in
      and_both _ _
      (if_so (is_input (kind t i) && served target home n c (owner t i)) _
      (λ s.
      let q = and-true (is_input (kind t i)) _ s in
      let idle : lower t i ≡ 0 =
      ⊎_elim
      (λ l. never (served target home n c (owner t i)) q.1 (not-true _ (if_true (is_input (kind t i) && (leb 1 (lower t i) && vacant target n i)) _ b (and_both _ _ q.0 (and_both _ _ l v)))))
      (λ l. let z = leb-false 1 (lower t i) l in omega arith) (true_or_false (leb 1 (lower t i))) in
      and_both _ _ (le-leb (lower t i) (seats target n c i) (omega arith)) (le-leb (seats target n c i) (upper t i) (omega arith))))
      (if_so (is_buffer (kind t i) || is_outgoing (kind t i)) _ (λ s. le-leb (seats target n c i) (upper t i - at stock i) (omega arith))))
      (λ i h.
      if_so (is_input (kind t i) && (leb 1 (lower t i) && vacant target n i)) _
      (λ s.
      let q = and-true (is_input (kind t i)) _ s in
      let r = and-true (leb 1 (lower t i)) _ q.1 in
      ap not
      (false_if (served target home n c (owner t i))
      (λ u.
      let w = if_true (is_input (kind t i) && served target home n c (owner t i)) _ (and-true _ _ h).0 (and_both _ _ q.0 u) in
      let zero = none-seated target n c i r.1 in
      let low = leb-true (lower t i) (seats target n c i) (and-true (leb (lower t i) (seats target n c i)) _ w).0 in
      let need = leb-true 1 (lower t i) r.0 in
      omega arith))))

  -- what is barred, node by node
  node_bars : on_each (node_bar t target home runs stock n) (below (nodes t)) c ≡ idle_part && on_each (pin_bar t target home runs stock n) (below (nodes t)) c
  unfolding node_bar
  node_bars = all_both (λ i. idle_kept t target home runs stock n i c) (λ i. pin_bar t target home runs stock n i c) (below (nodes t))

  -- the tests of rule 3, in order of what they speak of
  pub tests_say : all_pass (destination_tests t edge target home runs stock n) c ≡ edge_part && (idle_part && seat_part)
  tests_say =
      order (on_each (edge_row t edge target home n) (below n) c) (on_each (target_row t target home runs stock n) (below n) c)
      (on_each (edge_bar t edge target home n) (below (edges t)) c) (on_each (node_bar t target home runs stock n) (below (nodes t)) c)
      idle_part (on_each (pin_bar t target home runs stock n) (below (nodes t)) c) node_bars
      ∙ ap₂ (λ (x y : Bool). x && (idle_part && y)) edges_say seats_say
    where
      order : (a b d e i p : Bool) → e ≡ i && p → a && (b && ((d && e) && true)) ≡ (a && d) && (i && (b && p))
      order true true true e true p h = mathlib.Core.Bool.and-true e ∙ h
      order true true true e false p h = mathlib.Core.Bool.and-true e ∙ h
      order true true false e i p h = refl
      order true false true e true p h = refl
      order true false true e false p h = refl
      order true false false e i p h = refl
      order false b d e i p h = refl

-- what is barred at edges and at nodes
pub bars_kept_all : (t edge target home runs stock : List ℕ) {n es ns x y : ℕ} → es ≡ edges t → ns ≡ nodes t
    → BarredEnds n x (on_each (edge_bar t edge target home n) (below es)) → BarredEnds n y (on_each (node_bar t target home runs stock n) (below ns))
    → BarredEnds n (bit_or x y) (bars_kept t edge target home runs stock n)
bars_kept_all t edge target home runs stock {n} ee en be bn =
    bars_or (bars_all (edge_bar t edge target home n) ee be) (bars_all (node_bar t target home runs stock n) en bn)

-- the rows of edges, of targets and of what is barred, one after the other
pub destinations_added : (t edge target home runs stock : List ℕ) {n x : ℕ} {l₁ l₂ l₃ l₄ : List ℕ} {r₁ r₂ r₃ r₄ : ℕ} → n ≤ limits.most_ends
    → AddedUpto l₁ r₁ l₂ r₂ n (edge_row t edge target home n) n → AddedUpto l₂ r₂ l₃ r₃ n (target_row t target home runs stock n) n
    → BarredEnds n x (bars_kept t edge target home runs stock n) → RulesAdded l₃ r₃ l₄ r₄ 1 n (obeys n (rule x x 0 0) ∷ [])
    → RulesAdded l₁ r₁ l₄ r₄ 41 n (destination_tests t edge target home runs stock n)
destinations_added t edge target home runs stock few es ts b last =
    added_alike (omega arith) (λ c. refl) (added_then (added_then es ts) (added_same (bars_row b) last))
