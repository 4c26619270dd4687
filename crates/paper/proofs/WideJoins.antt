-- Joins of many edges: "one offer from every incoming edge" takes as many offers as there are edges, so nothing leaves a join that has more incoming edges
-- than there are offers. No join of more than 64 edges lets an offer through, though a table may have more edges than that. Assumes nothing.
use mathlib.Core.Path.{◌≡◌, refl, sym, ap, ap₂, ◌∙◌}
use Prim.Native.Nat.{ℕ, suc, ◌≤◌, ◌<◌}
use native.Mathlib.Omega.{arith}
use mathlib.Core.Bool.{Bool, true, false, not, cond}
use mathlib.Core.Logic.{⊎_elim}
use mathlib.Core.List.{List, [], ◌∷◌, ◌++◌}
use mathlib.Core.Option.{Option}
use lib.Dec.{eqb}
use lib.ListN.{length}
use borrow.Author.Tests.{eqb-true, eq-eqb, not-true}
use Rattle.paper.specs.Lists.{any, keep, each, gather}
use Rattle.paper.specs.Limits.{limits}
use Rattle.paper.specs.Answers.{good}
use Rattle.paper.specs.Table.{edges, kind, source, into, is_join, is_control_node, table_fine}
use Rattle.paper.specs.Marking.{Marking}
use Rattle.paper.specs.Offers.{Offer, with, last_edge, parts, compete, ways, handed, offers_on, offers}
use Rattle.paper.proofs.Bools.{never}
use Rattle.paper.proofs.Members.{In, here, later, in-none, in-cons, in-equal, in_keep, each_in, gather_in, below_in, Distinct, distinct-keep}
use Rattle.paper.proofs.Lengths.{length-each}
use Rattle.paper.proofs.Origins.{in_into, distinct-into}
use Rattle.paper.proofs.Sameness.{on-last}
use Rattle.paper.proofs.Fuel.{on_open}

-- ---- more numbers, all different, than another list has: one of them isn't in that list
-- without y: at most one fewer, and none fewer if y isn't among them
without : (y : ℕ) (xs : List ℕ) → Distinct xs
    → (length xs ≤ suc (length (keep (λ x. not (eqb x y)) xs))) × ((In y xs → ⊥) → length xs ≤ length (keep (λ x. not (eqb x y)) xs))
without y [] d = (omega arith, λ n. omega arith)
without y (x ∷ xs) d = by (eqb x y) refl (without y xs d.1)
  where
    left : List ℕ
    left = keep (λ x. not (eqb x y)) xs

    by : (b : Bool) → eqb x y ≡ b → (length xs ≤ suc (length left)) × ((In y xs → ⊥) → length xs ≤ length left)
        → (suc (length xs) ≤ suc (length (cond (not b) (x ∷ left) left))) × ((In y (x ∷ xs) → ⊥) → suc (length xs) ≤ length (cond (not b) (x ∷ left) left))
    by true e ih = (omega (arith, ih.1 (λ m. d.0 (in-equal (eqb-true x y e) m))), λ n. absurd (n (here (sym (eqb-true x y e)))))
    by false e ih = (omega (arith, ih.0), λ n. omega (arith, ih.1 (λ m. n (later m))))

left_out : (ys xs : List ℕ) → Distinct xs → length ys < length xs → (x : ℕ) × In x xs × (In x ys → ⊥)
left_out [] [] d l = absurd (omega arith)
left_out [] (x ∷ xs) d l = (x, here refl, in-none)
left_out (y ∷ ys) xs d l =
    let r = left_out ys (keep (λ x. not (eqb x y)) xs) (distinct-keep (λ x. not (eqb x y)) xs d) (omega (arith, (without y xs d).0)) in
    let k = in_keep (λ x. not (eqb x y)) xs r.1 in
    (r.0, k.0, λ m. ⊎_elim (λ e. never (eqb r.0 y) (eq-eqb r.0 y e) (not-true _ k.1)) r.2 (in-cons m))

-- ---- an edge without an offer
gather_none : {A B : Type 0} (f : A → List B) → ((x : A) → f x ≡ []) → (xs : List A) → gather f xs ≡ []
gather_none f h [] = refl
gather_none f h (x ∷ xs) = ap₂ (λ u v. u ++ v) (h x) (gather_none f h xs)

-- where one edge has no offer, there is no way
pub ways-bare : (t : List ℕ) (oss : List (List Offer)) → In [] oss → ways t oss ≡ []
unfolding ways
ways-bare t [] m = absurd (in-none m)
ways-bare t (os ∷ []) m = ⊎_elim sym (λ q. absurd (in-none q)) (in-cons m)
ways-bare t (os ∷ (ps ∷ pss)) m =
    ⊎_elim
    (λ q. ap (gather (λ o. each (with o) (keep (λ p. not (any (compete t o) (parts p))) (ways t (ps ∷ pss))))) (sym q))
    (λ q.
    gather_none (λ o. each (with o) (keep (λ p. not (any (compete t o) (parts p))) (ways t (ps ∷ pss))))
    (λ o. ap (λ z. each (with o) (keep (λ p. not (any (compete t o) (parts p))) z)) (ways-bare t (ps ∷ pss) q)) os)
    (in-cons m)

-- ---- more edges than offers
-- the edges js are different, and what is on them are offers of os, each on its own edge
pub record OwnEdges (on : ℕ → List Offer) (js : List ℕ) (os : List Offer) : Type 0 where
  pub apart : Distinct js
  pub among : (j : ℕ) (o : Offer) → In j js → In o (on j) → In o os
  pub own : (j : ℕ) (o : Offer) → In j js → In o (on j) → last_edge o ≡ j

module _ {on : ℕ → List Offer} {js : List ℕ} {os : List Offer} (y : OwnEdges on js os) (more : length os < length js) where
  -- one has no offer
  pub unserved : (j : ℕ) × In j js × (on j ≡ [])
  unserved =
      let r = left_out (each last_edge os) js y.apart (omega (arith, length-each last_edge os)) in
      (r.0, r.1, none-on (on r.0) (λ o k. r.2 (in-equal (sym (y.own r.0 o r.1 k)) (each_in last_edge (y.among r.0 o r.1 k)))))
    where
      none-on : (ps : List Offer) → ((o : Offer) → In o ps → ⊥) → ps ≡ []
      none-on [] h = refl
      none-on (p ∷ ps) h = absurd (h p (here refl))

  -- so there is no way
  pub no_way : (t : List ℕ) → ways t (each on js) ≡ []
  no_way t = ways-bare t (each on js) (in-equal (sym unserved.2) (each_in on unserved.1))

-- in the paper's words: where a table has no more offers than it may, none leaves a join of more edges than that
pub none-leaves_wide : (t : List ℕ) (goes : ℕ → Option ℕ → Bool) (m : Marking) → table_fine t limits ≡ good tt → length (offers t goes m) ≤ limits.most_offers
    → (e : ℕ) → e < edges t → is_join (kind t (source t e)) ≡ true → limits.most_offers < length (into t (source t e))
    → offers_on t goes m limits.longest_path e ≡ []
unfolding handed offers
none-leaves_wide t goes m g few e l join wide = on_open t goes m g e l ∙ rw (control, join, no_way held (omega arith) t)
  where
    control : is_control_node (kind t (source t e)) ≡ true
    control = ap is_control_node (eqb-true (kind t (source t e)) 11 join)

    held : OwnEdges (offers_on t goes m limits.longest_path) (into t (source t e)) (offers t goes m)
    held = record {
      apart = distinct-into t (source t e);
      among = λ j o i k. gather_in (offers_on t goes m limits.longest_path) (below_in (edges t) (in_into t (source t e) i).0) k;
      own = λ j o i k. on-last t goes m limits.longest_path j k;
    }
