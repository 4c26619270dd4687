-- Offers as members: `same` is equality, an offer on an edge has that edge for its last, and no offer stands twice. Assumes nothing.
use mathlib.Core.Path.{◌≡◌, refl, sym, ap, ap₂, ◌∙◌, subst}
use Prim.Native.Nat.{ℕ, zero, suc}
use mathlib.Core.Bool.{Bool, true, false, not, cond}
use mathlib.Core.List.{List, [], ◌∷◌}
use mathlib.Core.Option.{Option, none, some}
use lib.Dec.{eqb}
use borrow.Author.Tests.{eqb-true, eq-eqb}
use Rattle.paper.specs.Lists.{below, any, keep, each, gather}
use Rattle.paper.specs.Limits.{limits}
use Rattle.paper.specs.Table.{edges, kind, source, into, is_join, is_control_node}
use Rattle.paper.specs.Marking.{Marking}
use Rattle.paper.specs.Offers.{Offer, first, over, with, same, same_value, elem, last_edge, value, parts, compete, firsts, ways, handed, offers_on, offers}
use Rattle.paper.proofs.Bools.{never, and-true, and_both}
use Rattle.paper.proofs.Members.{In, here, any_in, in_any, in-none, in_each, in-equal, Distinct, distinct-keep, distinct-each, distinct-gather, distinct-below}
use Rattle.paper.proofs.Origins.{Handed, starts, extends, joins, in_firsts, on_none, on_view, distinct-into}

-- ---- `same` is equality
value-refl : (v : Option ℕ) → same_value v v ≡ true
value-refl none = refl
value-refl (some v) = eq-eqb v v refl

value_eq : (v w : Option ℕ) → same_value v w ≡ true → v ≡ w
value_eq none none h = refl
value_eq none (some w) h = never false h refl
value_eq (some v) none h = never false h refl
value_eq (some v) (some w) h = ap some (eqb-true v w h)

pub same_refl : (o : Offer) → same o o ≡ true
unfolding same
same_refl (first e v) = and_both _ _ (eq-eqb e e refl) (value-refl v)
same_refl (over o e) = and_both _ _ (eq-eqb e e refl) (same_refl o)
same_refl (with o p) = and_both _ _ (same_refl o) (same_refl p)

pub same_eq : (o p : Offer) → same o p ≡ true → o ≡ p
unfolding same
same_eq (first e v) (first f w) h = let r = and-true (eqb e f) _ h in ap₂ first (eqb-true e f r.0) (value_eq v w r.1)
same_eq (first e v) (over p f) h = never false h refl
same_eq (first e v) (with p q) h = never false h refl
same_eq (over o e) (first f w) h = never false h refl
same_eq (over o e) (over p f) h = let r = and-true (eqb e f) _ h in ap₂ over (same_eq o p r.1) (eqb-true e f r.0)
same_eq (over o e) (with p q) h = never false h refl
same_eq (with o p) (first f w) h = never false h refl
same_eq (with o p) (over q f) h = never false h refl
same_eq (with o p) (with q r) h = let s = and-true (same o q) _ h in ap₂ with (same_eq o q s.0) (same_eq p r s.1)

pub eq_same : (o p : Offer) → o ≡ p → same o p ≡ true
eq_same o p e = rw e (same_refl p)

-- `elem` is membership
pub elem_in : {o : Offer} (os : List Offer) → elem o os ≡ true → In o os
unfolding elem
elem_in {o} os h = let r = any_in (same o) os h in in-equal (same_eq o r.0 r.2) r.1

pub in_elem : {o : Offer} {os : List Offer} → In o os → elem o os ≡ true
unfolding elem
in_elem {o} m = in_any (same o) m (same_refl o)

-- ---- the last edge
module _ (t : List ℕ) (goes : ℕ → Option ℕ → Bool) (m : Marking) where
  last-handed : (on : ℕ → List Offer) (e : ℕ) {o : Offer} → Handed t m on e o → last_edge o ≡ e
  unfolding last_edge
  last-handed on e (starts c f) = refl
  last-handed on e (extends c d i k) = refl
  last-handed on e (joins c d w) = refl

  pub on-last : (n e : ℕ) {o : Offer} → In o (offers_on t goes m n e) → last_edge o ≡ e
  on-last zero e k = absurd (on_none t goes m e k)
  on-last (suc n) e k = last-handed (offers_on t goes m n) e (on_view t goes m n e k)

-- ---- no offer stands twice
over-one : (e : ℕ) (o p : Offer) → over o e ≡ over p e → o ≡ p
over-one e o p h = cc

with-one : (o p q : Offer) → with o p ≡ with o q → p ≡ q
with-one o p q h = cc

-- at a join every way is another offer
module _ (t : List ℕ) (on : ℕ → List Offer) (d : (j : ℕ) → Distinct (on j)) where
  distinct-ways : (js : List ℕ) → Distinct (ways t (each on js))
  unfolding ways
  distinct-ways [] = tt
  distinct-ways (j ∷ []) = d j
  distinct-ways (j ∷ (k ∷ js)) =
      distinct-gather (λ o. each (with o) (rest o)) (λ o. distinct-each (with o) (with-one o) (rest o) (distinct-keep (free o) all (distinct-ways (k ∷ js))))
      (λ o p w a b. left o p (in_each (with o) (rest o) a) (in_each (with p) (rest p) b)) (on j) (d j)
    where
      all : List Offer
      all = ways t (each on (k ∷ js))

      free : Offer → Offer → Bool
      free o p = not (any (compete t o) (parts p))

      rest : Offer → List Offer
      rest o = keep (free o) all

      left : {w : Offer} (o p : Offer) → (q : Offer) × In q (rest o) × (w ≡ with o q) → (q : Offer) × In q (rest p) × (w ≡ with p q) → o ≡ p
      left o p r s = let a = r.2 in let b = s.2 in cc

module _ (t : List ℕ) (goes : ℕ → Option ℕ → Bool) (m : Marking) where
  distinct-handed : (on : ℕ → List Offer) → ((j : ℕ) (o : Offer) → In o (on j) → last_edge o ≡ j) → ((j : ℕ) → Distinct (on j)) → (e : ℕ) → Distinct (handed t m on e)
  unfolding handed
  distinct-handed on l d e = by (is_control_node (kind t (source t e))) (is_join (kind t (source t e)))
    where
      start : (os : List Offer) → ((o : Offer) → In o os → (v : Option ℕ) × (os ≡ first e v ∷ [])) → Distinct os
      start [] h = tt
      start (o ∷ os) h = let r = h o (here refl) in let rest : os ≡ [] = (let q = r.1 in cc) in (λ k. in-none (rw rest at k), subst Distinct (sym rest) tt)

      by : (b c : Bool) → Distinct (cond b (each (λ o. over o e) (cond c (ways t (each on (into t (source t e)))) (gather on (into t (source t e))))) (firsts t m e))
      by true true = distinct-each (λ o. over o e) (over-one e) (ways t (each on (into t (source t e)))) (distinct-ways t on d (into t (source t e)))
      by true false =
          distinct-each (λ o. over o e) (over-one e) (gather on (into t (source t e)))
          (distinct-gather on d (λ i j o a b. sym (l i o a) ∙ l j o b) (into t (source t e)) (distinct-into t (source t e)))
      by false c = start (firsts t m e) (λ o k. in_firsts t m e k)

  pub distinct-on : (n e : ℕ) → Distinct (offers_on t goes m n e)
  unfolding offers_on
  distinct-on zero e = tt
  distinct-on (suc n) e =
      distinct-keep (λ o. goes e (value o)) (handed t m (offers_on t goes m n) e)
      (distinct-handed (offers_on t goes m n) (λ j o k. on-last t goes m n j k) (distinct-on n) e)

  pub distinct-offers : Distinct (offers t goes m)
  unfolding offers
  distinct-offers =
      distinct-gather (offers_on t goes m limits.longest_path) (distinct-on limits.longest_path)
      (λ i j o a b. sym (on-last t goes m limits.longest_path i a) ∙ on-last t goes m limits.longest_path j b) (below (edges t)) (distinct-below (edges t))
