-- Where an offer on an edge comes from: it starts there, is extended at a decision, merge or fork, or is joined. Proofs about all offers of
-- an edge go by these three forms. Assumes nothing.
use mathlib.Core.Path.{◌≡◌, refl, sym, ap, subst}
use Prim.Native.Nat.{ℕ, zero, suc, ◌<◌}
use mathlib.Core.Bool.{Bool, true, false, not, cond}
use mathlib.Core.Logic.{⊎_elim}
use mathlib.Core.List.{List, [], ◌∷◌, ◌++◌}
use mathlib.Core.Option.{Option, none, some}
use lib.Dec.{eqb, leb}
use borrow.Author.Tests.{eqb-true, eq-eqb, not-true}
use Rattle.paper.specs.Lists.{below, any, keep, each, gather}
use Rattle.paper.specs.Table.{edges, kind, source, target, into, out, is_join, is_control_node, is_object_node}
use Rattle.paper.specs.Marking.{Marking, counted}
use Rattle.paper.specs.Limits.{limits}
use Rattle.paper.specs.Offers.{Offer, first, over, with, value, parts, compete, firsts, ways, handed, offers_on, offers}
use Rattle.paper.proofs.Members.{In, here, later, in-none, in_one, in-append, in_keep, keep_in, in_each, each_in, in_gather, gather_in, in_below, below_in, in_keep-below, Distinct, distinct-keep, distinct-below}

-- ---- the edges into a node, and out of it
pub in_into : (t : List ℕ) (i : ℕ) {j : ℕ} → In j (into t i) → (j < edges t) × (target t j ≡ i)
unfolding into
in_into t i {j} m =
    let r = in_keep-below (λ j. eqb (target t j) i) (edges t) m in
    (r.0, eqb-true (target t j) i r.1)

pub distinct-into : (t : List ℕ) (i : ℕ) → Distinct (into t i)
unfolding into
distinct-into t i = distinct-keep (λ j. eqb (target t j) i) (below (edges t)) (distinct-below (edges t))

pub out_in : (t : List ℕ) {j : ℕ} → j < edges t → In j (out t (source t j))
unfolding out
out_in t {j} l = keep_in (λ i. eqb (source t i) (source t j)) (below_in (edges t) l) (eq-eqb (source t j) (source t j) refl)

-- ---- one offer from every edge of a list, no two competing
pub data Way (t : List ℕ) (on : ℕ → List Offer) : List ℕ → Offer → Type 0 where
  alone : {j : ℕ} {o : Offer} → In o (on j) → Way t on (j ∷ []) o
  beside : {j k : ℕ} {js : List ℕ} {o w : Offer} → In o (on j) → Way t on (k ∷ js) w → any (compete t o) (parts w) ≡ false → Way t on (j ∷ (k ∷ js)) (with o w)

module _ (t : List ℕ) (on : ℕ → List Offer) where
  pub way_of : (js : List ℕ) {w : Offer} → In w (ways t (each on js)) → Way t on js w
  unfolding ways
  way_of [] m = absurd (in-none m)
  way_of (j ∷ []) m = alone m
  way_of (j ∷ (k ∷ js)) {w} m =
      let r = in_gather (λ o. each (with o) (keep (λ p. not (any (compete t o) (parts p))) (ways t (each on (k ∷ js))))) (on j) m in
      let s = in_each (with r.0) (keep (λ p. not (any (compete t r.0) (parts p))) (ways t (each on (k ∷ js)))) r.2 in
      let q = in_keep (λ p. not (any (compete t r.0) (parts p))) (ways t (each on (k ∷ js))) s.1 in
      subst (Way t on (j ∷ (k ∷ js))) (sym s.2) (beside r.1 (way_of (k ∷ js) q.0) (not-true _ q.1))

  pub in_ways : {js : List ℕ} {w : Offer} → Way t on js w → In w (ways t (each on js))
  unfolding ways
  in_ways (alone m) = m
  in_ways (beside {j = j} {k = k} {js = js} {o = o} {w = w} m r c) =
      gather_in (λ o. each (with o) (keep (λ p. not (any (compete t o) (parts p))) (ways t (each on (k ∷ js))))) m
      (each_in (with o) (keep_in (λ p. not (any (compete t o) (parts p))) (in_ways r) (ap not c)))

  -- what a way has, one of the offers taken has, for anything that `with` puts together
  pub way_from : {A : Type 0} (f : Offer → List A) → ((o p : Offer) → f (with o p) ≡ f o ++ f p)
      → {js : List ℕ} {w : Offer} → Way t on js w → {x : A} → In x (f w) → (j : ℕ) × (o : Offer) × In j js × In o (on j) × In x (f o)
  way_from f h (alone {j = j} {o = o} m) k = (j, o, here refl, m, k)
  way_from f h (beside {j = j} {o = o} {w = w} m r c) k =
      ⊎_elim (λ l. (j, o, here refl, m, l)) (λ l. let s = way_from f h r l in (s.0, s.1, later s.2, s.3, s.4))
      (in-append (f o) (rw (h o w) at k))

-- ---- the three forms
pub data Handed (t : List ℕ) (m : Marking) (on : ℕ → List Offer) (e : ℕ) : Offer → Type 0 where
  starts : {v : Option ℕ} → is_control_node (kind t (source t e)) ≡ false → firsts t m e ≡ first e v ∷ [] → Handed t m on e (first e v)
  extends : {j : ℕ} {o : Offer} → is_control_node (kind t (source t e)) ≡ true → is_join (kind t (source t e)) ≡ false → In j (into t (source t e)) → In o (on j) → Handed t m on e (over o e)
  joins : {w : Offer} → is_control_node (kind t (source t e)) ≡ true → is_join (kind t (source t e)) ≡ true → Way t on (into t (source t e)) w → Handed t m on e (over w e)

module _ (t : List ℕ) (m : Marking) where
  -- a first offer: the edge, and no other first offer on it
  pub in_firsts : (e : ℕ) {o : Offer} → In o (firsts t m e) → (v : Option ℕ) × (firsts t m e ≡ first e v ∷ [])
  unfolding firsts
  in_firsts e {o} k = by (counted t e) refl (leb 1 (m.tokens e)) refl (is_object_node (kind t (source t e))) refl (m.stock (source t e)) refl k
    where
      by : (b : Bool) → counted t e ≡ b → (c : Bool) → leb 1 (m.tokens e) ≡ c → (d : Bool) → is_object_node (kind t (source t e)) ≡ d → (vs : List ℕ) → m.stock (source t e) ≡ vs
          → In o (firsts t m e) → (v : Option ℕ) × (firsts t m e ≡ first e v ∷ [])
      by true p true q d s vs r k = (none, rw (p, q))
      by true p false q d s vs r k = absurd (in-none (rw (p, q) at k))
      by false p c q true s [] r k = absurd (in-none (rw (p, s, r) at k))
      by false p c q true s (v ∷ vs) r k = (some v, rw (p, s, r))
      by false p c q false s vs r k = absurd (in-none (rw (p, s) at k))

  pub handed_view : (on : ℕ → List Offer) (e : ℕ) {o : Offer} → In o (handed t m on e) → Handed t m on e o
  unfolding handed
  handed_view on e {o} k = by (is_control_node (kind t (source t e))) refl (is_join (kind t (source t e))) refl k
    where
      by : (b : Bool) → is_control_node (kind t (source t e)) ≡ b → (c : Bool) → is_join (kind t (source t e)) ≡ c
          → In o (cond b (each (λ o. over o e) (cond c (ways t (each on (into t (source t e)))) (gather on (into t (source t e))))) (firsts t m e)) → Handed t m on e o
      by true p true q k =
          let r = in_each (λ o. over o e) (ways t (each on (into t (source t e)))) k in
          subst (Handed t m on e) (sym r.2) (joins p q (way_of t on (into t (source t e)) r.1))
      by true p false q k =
          let r = in_each (λ o. over o e) (gather on (into t (source t e))) k in
          let s = in_gather on (into t (source t e)) r.1 in
          subst (Handed t m on e) (sym r.2) (extends p q s.1 s.2)
      by false p c q k =
          let r = in_firsts e k in
          subst (Handed t m on e) (sym (in_one (rw r.1 at k))) (starts p r.1)

  pub handed_in : (on : ℕ → List Offer) (e : ℕ) {o : Offer} → Handed t m on e o → In o (handed t m on e)
  unfolding handed
  handed_in on e (starts c f) = rw (c, f) (here refl)
  handed_in on e (extends c d i k) = rw (c, d) (each_in (λ o. over o e) (gather_in on i k))
  handed_in on e (joins c d w) = rw (c, d) (each_in (λ o. over o e) (in_ways t on w))

module _ (t : List ℕ) (goes : ℕ → Option ℕ → Bool) (m : Marking) where
  pub on_none : (e : ℕ) {o : Offer} → In o (offers_on t goes m zero e) → ⊥
  unfolding offers_on
  on_none e k = in-none k

  pub on_view : (n e : ℕ) {o : Offer} → In o (offers_on t goes m (suc n) e) → Handed t m (offers_on t goes m n) e o
  unfolding offers_on
  on_view n e k =
      handed_view t m (offers_on t goes m n) e (in_keep (λ o. goes e (value o)) (handed t m (offers_on t goes m n) e) k).0

  -- an offer of the table is on one of its edges
  pub in_offers : {o : Offer} → In o (offers t goes m) → (e : ℕ) × (e < edges t) × In o (offers_on t goes m limits.longest_path e)
  unfolding offers
  in_offers k =
      let r = in_gather (offers_on t goes m limits.longest_path) (below (edges t)) k in
      (r.0, in_below (edges t) r.1, r.2)
