-- Edges in lists by their keys, listed from the last edge to the first, and lists walked. Assumes nothing.
use mathlib.Core.Path.{◌≡◌, refl, sym, ap, ◌∙◌, subst}
use Prim.Native.Nat.{ℕ, zero, suc, ◌+◌, ◌-◌, ◌≤◌, ◌<◌}
use mathlib.Core.Logic.{⊎_elim, ◌⊎◌, inl, inr}
use mathlib.Core.Bool.{cond}
use mathlib.Core.List.{List, [], ◌∷◌}
use native.Mathlib.Omega.{arith}
use native.Mathlib.Decide.{dec_lt}
use native.Mathlib.Numerals.{add-one}
use lib.Dec.{eqb}
use lib.ListN.{length, get_or, set, replicate, length-replicate}
use lib.Seq.{get_or-set_same, get_or-set_other}
use borrow.Author.Tests.{eq-eqb, ne_eqb}
use Rattle.paper.specs.Lists.{keep, from}
use Rattle.paper.specs.Limits.{limits}
use Rattle.paper.specs.Table.{nodes, edges, target, into}
use Rattle.table.specs.Incoming.{ListFrom, Forward, keyed, Listed, Incoming, Unlisted}

-- ---- filling the lists
-- the edges with key i from edge j on
abbrev late : (ℕ → ℕ) → ℕ → ℕ → ℕ → List ℕ
late key e i j = keep (λ k. eqb (key k) i) (from j (e - j))

-- of the edges below e, those from j on are listed
pub record Begun (key : ℕ → ℕ) (e n : ℕ) (first next : List ℕ) (j : ℕ) : Type 0 where
  pub forward : Forward next
  pub lows : (i : ℕ) → i < n → j ≤ get_or first i 0
  pub lists : (i : ℕ) → i < n → ListFrom next (get_or first i 0) (late key e i j)

pub begun_none : (key : ℕ → ℕ) (e n : ℕ) {room : ℕ} (first next : List ℕ) → e ≤ limits.most_edges → n ≤ room → Unlisted room first
    → Unlisted limits.most_edges next → Begun key e n first next e
begun_none key e n first next few fits bf bn = record {
  forward = λ j l. let z = bn.no_edges j l in omega arith;
  lows = λ i l. let z = bf.no_edges i (omega arith) in omega arith;
  lists = λ i l.
      let q = bf.no_edges i (omega arith) in
      subst (λ z. ListFrom next (get_or first i 0) (keep (λ k. eqb (key k) i) (from e z))) (let z : 0 ≡ e - e = omega arith in z)
      (let z : limits.most_edges ≤ get_or first i 0 = omega arith in z);
}

-- what stands behind edge j is not asked on lists that begin later
behind : (next : List ℕ) (j v k : ℕ) (js : List ℕ) → Forward next → j < k → ListFrom next k js → ListFrom (set next j v) k js
behind next j v k [] f l h = h
behind next j v k (i ∷ is) f l h =
    let ne : k ≡ j → ⊥ = omega arith in
    let u = f k h.0.1 in
    (h.0, subst (λ z. ListFrom (set next j v) z is) (sym (get_or-set_other next j k v 0 ne)) (behind next j v (get_or next k 0) is f (omega arith) h.1))

pub equal_or_not : (i j : ℕ) → (i ≡ j) ⊎ (i ≡ j → ⊥)
equal_or_not i j = elim (dec_lt i j) [
  | yes l ↦ inr (omega arith)
  | no l ↦ elim (dec_lt j i) [ yes k ↦ inr (omega arith) | no k ↦ inl (omega arith) ]
]

-- edge j too, whose key is s
module _ (key : ℕ → ℕ) (e n : ℕ) (first next : List ℕ) (j s : ℕ) (key-is : key j ≡ s) (lj : j < e) (few : e ≤ limits.most_edges) (ln : j < length next)
    (lf : s < length first) (y : Begun key e n first next (j + 1)) where
  late_is : (i : ℕ) → late key e i j ≡ cond (eqb s i) (j ∷ late key e i (j + 1)) (late key e i (j + 1))
  late_is i =
      let q : e - j ≡ suc (e - (j + 1)) = omega arith in
      ap (λ z. keep (λ k. eqb (key k) i) (from j z)) q
      ∙ ap (λ z. keep (λ k. eqb (key k) i) (j ∷ from z (e - (j + 1)))) (sym (add-one j))
      ∙ ap (λ z. cond (eqb z i) (j ∷ late key e i (j + 1)) (late key e i (j + 1))) key-is

  first-low : s < n → j < get_or first s 0
  first-low l = let u = y.lows s l in omega arith

  abbrev next' : List ℕ
  next' = set next j (get_or first s 0)

  -- the edge's own key
  list_here : (i : ℕ) → ListFrom next' (get_or first i 0) (late key e i (j + 1)) → i ≡ s → ListFrom next' (get_or (set first s j) i 0) (late key e i j)
  list_here i h is =
      let q : late key e i j ≡ j ∷ late key e i (j + 1) = late_is i ∙ rw (eq-eqb s i (sym is)) in
      let f : get_or (set first s j) i 0 ≡ j = ap (λ z. get_or (set first s j) z 0) is ∙ get_or-set_same first s j 0 lf in
      let g : get_or first i 0 ≡ get_or next' j 0 = ap (λ z. get_or first z 0) is ∙ sym (get_or-set_same next j (get_or first s 0) 0 ln) in
      rw (q, f) ((refl, omega arith), subst (λ z. ListFrom next' z (late key e i (j + 1))) g h)

  -- another key
  list-there : (i : ℕ) → ListFrom next' (get_or first i 0) (late key e i (j + 1)) → (i ≡ s → ⊥) → ListFrom next' (get_or (set first s j) i 0) (late key e i j)
  list-there i h ne =
      let q : late key e i j ≡ late key e i (j + 1) = late_is i ∙ rw (ne_eqb s i (λ q. ne (sym q))) in
      rw (q, get_or-set_other first s i j 0 ne) h

  pub begun_more : s < n → Begun key e n (set first s j) (set next j (get_or first s 0)) j
  begun_more sn = record {
    forward = λ k l. ⊎_elim
        (λ is. let u = first-low sn in omega (arith, ap (λ z. get_or (set next j (get_or first s 0)) z 0) is ∙ get_or-set_same next j (get_or first s 0) 0 ln))
        (λ ne. omega (arith, get_or-set_other next j k (get_or first s 0) 0 ne, y.forward k l))
        (equal_or_not k j);
    lows = λ i l. ⊎_elim
        (λ is. omega (arith, ap (λ z. get_or (set first s j) z 0) is ∙ get_or-set_same first s j 0 lf))
        (λ ne. omega (arith, get_or-set_other first s i j 0 ne, y.lows i l))
        (equal_or_not i s);
    lists = λ i l.
        let old = behind next j (get_or first s 0) (get_or first i 0) (late key e i (j + 1)) y.forward (let u = y.lows i l in omega arith) (y.lists i l) in
        ⊎_elim (list_here i old) (list-there i old) (equal_or_not i s);
  }

pub begun_all : {key : ℕ → ℕ} {e n : ℕ} {first next : List ℕ} (j : ℕ) → j ≡ 0 → Begun key e n first next j → Listed key e n first next
begun_all {key} {e} {n} {first} {next} j z y = record {
  forward = y.forward;
  lists = λ i l.
      let d : e - j ≡ e = omega arith in
      let q : late key e i j ≡ keyed key e i = ap (λ n. keep (λ k. eqb (key k) i) (from j n)) d ∙ ap (λ k. keep (λ k. eqb (key k) i) (from k e)) z in
      subst (λ js. ListFrom next (get_or first i 0) js) q (y.lists i l);
}

-- by the node that an edge enters
pub incoming-listed : {t first next : List ℕ} → Listed (target t) (edges t) (nodes t) first next → Incoming t first next
unfolding into
incoming-listed y = record { forward = y.forward; lists = y.lists }

-- ---- walking a list
-- at an edge the list goes on with it
pub list-edge : (next : List ℕ) (j : ℕ) (js : List ℕ) → ListFrom next j js → j < limits.most_edges
    → (is : List ℕ) × ((js ≡ j ∷ is) × ListFrom next (get_or next j 0) is)
list-edge next j [] h l = let z : limits.most_edges ≤ j = h in absurd (omega arith)
list-edge next j (i ∷ is) h l = (is, (ap (λ z. z ∷ is) (sym h.0.0), h.1))

-- elsewhere it ends
pub list-end : (next : List ℕ) (j : ℕ) (js : List ℕ) → ListFrom next j js → limits.most_edges ≤ j → js ≡ []
list-end next j [] h l = refl
list-end next j (i ∷ is) h l = let u = h.0.1 in absurd (omega arith)

-- from anywhere on there is a list
pub some-list : (next : List ℕ) (j : ℕ) → Forward next → (js : List ℕ) × ListFrom next j js
some-list next j f = by limits.most_edges j (omega arith)
  where
    by : (n j : ℕ) → limits.most_edges ≤ n + j → (js : List ℕ) × ListFrom next j js
    by zero j l = let z : limits.most_edges ≤ j = omega arith in ([], z)
    by (suc n) j l = elim (dec_lt j limits.most_edges) [
      | yes q ↦ let u = f j q in let r = by n (get_or next j 0) (omega arith) in (j ∷ r.0, ((refl, q), r.1))
      | no q ↦ let z : limits.most_edges ≤ j = omega arith in ([], z)
    ]

-- ---- an array that lists nothing
pub unlisted : (n : ℕ) → Unlisted n (replicate n 255)
unlisted n = record { room = omega (arith, length-replicate {A = ℕ} n 255); no_edges = by n }
  where
    by : (n i : ℕ) → i < n → ◌≡◌ {A = ℕ} (get_or {A = ℕ} (replicate n 255) i 0) 255
    by zero i l = absurd (omega arith)
    by (suc n) zero l = refl
    by (suc n) (suc i) l = by n i (omega arith)
