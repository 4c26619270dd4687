-- "a value (none on control edges)": on a good table an offer has a value exactly on an object edge, and what a join makes has the value of the
-- object edge's offer. Assumes nothing.
use mathlib.Core.Path.{◌≡◌, refl, sym, ap, ap₂, ◌∙◌}
use Prim.Native.Nat.{ℕ, zero, suc, ◌≤◌, ◌<◌}
use native.Mathlib.Omega.{arith}
use mathlib.Core.Bool.{Bool, true, false, ◌&&◌, ◌||◌, cond}
use mathlib.Core.Logic.{⊎_elim}
use mathlib.Core.List.{List, [], ◌∷◌, ◌++◌}
use mathlib.Core.Option.{Option, none, some}
use lib.Dec.{leb, eqb}
use lib.ListN.{length}
use borrow.Author.Tests.{eqb-true, eqb-false, leb-true, lt-leb, not-true}
use Rattle.paper.specs.Lists.{all, any, count, each, ◌⇒◌}
use Rattle.paper.specs.Limits.{limits}
use Rattle.paper.specs.Answers.{good}
use Rattle.paper.specs.Table.{edges, kind, source, into, out, is_initial, is_action, is_decision, is_merge, is_fork, is_join, is_control_node, is_object_node, is_object, is_control, may_leave, degrees_fine, one_kind, join_fine, table_fine}
use Rattle.paper.specs.Marking.{Marking, counted}
use Rattle.paper.specs.Offers.{Offer, first, with, elem, parts, value, is_some, last_edge, origins, made_at, or_else, firsts, ways, offers_on, offers}
use Rattle.paper.proofs.Bools.{never, and-true, or-true, or_left, or_right, if_true}
use Rattle.paper.proofs.Members.{In, here, later, in_one, in-cons, in-equal, in-append, append_left, append_right, any_in, in_any, all_in, any-count, only, snoc_some}
use Rattle.paper.proofs.Counts.{all_append}
use Rattle.paper.proofs.Sameness.{elem_in, on-last}
use Rattle.paper.proofs.Origins.{Handed, starts, extends, joins, Way, alone, beside, way_of, way_from, on_none, on_view, in_offers, in_into, out_in}
use Rattle.paper.proofs.Tables.{table-good, Shape}

-- ---- kinds
-- "Control edges leave kinds 1, 2, 8 to 11"
leaves-first : (k : ℕ) → may_leave false k ≡ true → is_control_node k ≡ false → is_initial k || is_action k ≡ true
leaves-first k h c =
    ⊎_elim (λ a. or_left (is_initial k) (is_action k) a)
    (λ r. ⊎_elim (λ a. or_right (is_initial k) (is_action k) a)
    (λ s. let q = any_in (eqb k) (8 ∷ 9 ∷ 10 ∷ 11 ∷ []) s in never (is_control_node k) (ap is_control_node (eqb-true k q.0 q.2) ∙ all_in is_control_node refl q.1) c)
    (or-true (eqb k 2) _ r))
    (or-true (eqb k 1) _ h)

-- a control node that is no join is a decision, merge or fork
no_join : (k : ℕ) → is_control_node k ≡ true → is_join k ≡ false → is_decision k || is_merge k || is_fork k ≡ true
no_join k c d = by (is_decision k) refl (is_merge k) refl (is_fork k) refl
  where
    by : (a : Bool) → is_decision k ≡ a → (b : Bool) → is_merge k ≡ b → (f : Bool) → is_fork k ≡ f → a || b || f ≡ true
    by true p b q f r = refl
    by false p true q f r = refl
    by false p false q true r = refl
    by false p false q false r =
        let s = and-true (leb 8 k) _ c in
        absurd (near (leb-true 8 k s.0) (leb-true k 11 s.1) (eqb-false k 8 p) (eqb-false k 9 q) (eqb-false k 10 r) (eqb-false k 11 d))
      where
        near : 8 ≤ k → k ≤ 11 → (k ≡ 8 → ⊥) → (k ≡ 9 → ⊥) → (k ≡ 10 → ⊥) → (k ≡ 11 → ⊥) → ⊥
        near a b p q r s = omega arith

pub one-is : {e : ℕ} {v w : Option ℕ} → first e v ∷ [] ≡ first e w ∷ [] → v ≡ w
one-is {e} {v} {w} h = cc

module _ (t : List ℕ) (m : Marking) (e : ℕ) where
  -- a first offer
  first-value : {v : Option ℕ} → may_leave (is_object t e) (kind t (source t e)) ≡ true → is_control_node (kind t (source t e)) ≡ false
      → firsts t m e ≡ first e v ∷ [] → is_some v ≡ is_object t e
  unfolding firsts counted
  first-value {v} h c f = by (is_object t e) refl h
    where
      old : (d : Bool) → is_object_node (kind t (source t e)) ≡ d → (vs : List ℕ) → m.stock (source t e) ≡ vs → is_object t e ≡ true → is_some v ≡ true
      old false o vs q b = let g : [] ≡ first e v ∷ [] = rw (b, o) at f in snoc_some [] (first e v) g
      old true o [] q b = let g : [] ≡ first e v ∷ [] = rw (b, o, q) at f in snoc_some [] (first e v) g
      old true o (w ∷ ws) q b = let g : first e (some w) ∷ [] ≡ first e v ∷ [] = rw (b, o, q) at f in ap is_some (one-is (sym g))

      counts : (b : Bool) → leb 1 (m.tokens e) ≡ b → is_object t e ≡ false → is_initial (kind t (source t e)) || is_action (kind t (source t e)) ≡ true → is_some v ≡ false
      counts true q b i = let g : first e none ∷ [] ≡ first e v ∷ [] = rw (b, i, q) at f in ap is_some (one-is (sym g))
      counts false q b i = let g : [] ≡ first e v ∷ [] = rw (b, i, q) at f in snoc_some [] (first e v) g

      by : (b : Bool) → is_object t e ≡ b → may_leave b (kind t (source t e)) ≡ true → is_some v ≡ is_object t e
      by true b h = old (is_object_node (kind t (source t e))) refl (m.stock (source t e)) refl b ∙ sym b
      by false b h = counts (leb 1 (m.tokens e)) refl b (leaves-first (kind t (source t e)) h c) ∙ sym b

module _ (t : List ℕ) (g : table_fine t limits ≡ good tt) (e : ℕ) (l : e < edges t) where
  at_source : Shape t limits (source t e)
  at_source = let f = table-good t limits g in f.shape (source t e) (f.edge e l).source_fits

  -- "All edges at a decision, merge or fork have one kind."
  same_kind : (j : ℕ) → is_control_node (kind t (source t e)) ≡ true → is_join (kind t (source t e)) ≡ false → In j (into t (source t e)) → is_object t j ≡ is_object t e
  unfolding one_kind
  same_kind j c d i =
      ⊎_elim (λ a. all_in (is_object t) a here_j ∙ sym (all_in (is_object t) a here_e))
      (λ a. not-true _ (all_in (is_control t) a here_j) ∙ sym (not-true _ (all_in (is_control t) a here_e)))
      (or-true (all (is_object t) (into t (source t e) ++ out t (source t e))) _ (if_true _ _ at_source.one-kind (no_join (kind t (source t e)) c d)))
    where
      here_j : In j (into t (source t e) ++ out t (source t e))
      here_j = append_left (out t (source t e)) i

      here_e : In e (into t (source t e) ++ out t (source t e))
      here_e = append_right (into t (source t e)) (out_in t l)

  -- "a merge or join at least one incoming and exactly one outgoing"
  pub join_out : is_join (kind t (source t e)) ≡ true → out t (source t e) ≡ e ∷ []
  unfolding degrees_fine
  join_out d =
      let s = and-true (is_decision (kind t (source t e)) || is_fork (kind t (source t e)) ⇒ eqb (length (into t (source t e))) 1 && leb 1 (length (out t (source t e)))) _ at_source.degrees in
      let u = and-true (leb 1 (length (into t (source t e)))) _ (if_true _ _ s.1 (or_right (is_merge (kind t (source t e))) _ d)) in
      only (out t (source t e)) (eqb-true (length (out t (source t e))) 1 u.1) (out_in t l)

  -- "its outgoing edge is object exactly if it has one"
  join_kind : is_join (kind t (source t e)) ≡ true → any (is_object t) (into t (source t e)) ≡ is_object t e
  unfolding join_fine
  join_kind d =
      let r = and-true (leb (count (is_object t) (into t (source t e))) 1) _ (if_true _ _ at_source.join d) in
      any-count (is_object t) (into t (source t e))
      ∙ ap (leb 1) (sym (eqb-true _ _ r.1) ∙ ap (count (is_object t)) (join_out d))
      ∙ by (is_object t e)
    where
      by : (b : Bool) → leb 1 (cond b 1 0) ≡ b
      by true = refl
      by false = refl

-- one of the offers taken has a value
way_value : (t : List ℕ) (on : ℕ → List Offer) → ((j : ℕ) (o : Offer) → j < edges t → In o (on j) → is_some (value o) ≡ is_object t j)
    → {js : List ℕ} {w : Offer} → ((j : ℕ) → In j js → j < edges t) → Way t on js w → is_some (value w) ≡ any (is_object t) js
unfolding value
way_value t on h l (alone {j = j} {o = o} k) = h j o (l j (here refl)) k ∙ by (is_object t j)
  where
    by : (b : Bool) → b ≡ b || false
    by true = refl
    by false = refl
way_value t on h l (beside {j = j} {o = o} {w = w} k r c) =
    by (value o) (value w) ∙ ap₂ ◌||◌ (h j o (l j (here refl)) k) (way_value t on h (λ i z. l i (later z)) r)
  where
    by : (v w : Option ℕ) → is_some (or_else v w) ≡ is_some v || is_some w
    by none w = refl
    by (some v) w = refl

module _ (t : List ℕ) (goes : ℕ → Option ℕ → Bool) (m : Marking) (g : table_fine t limits ≡ good tt) where
  pub value_on : (n e : ℕ) {o : Offer} → e < edges t → In o (offers_on t goes m n e) → is_some (value o) ≡ is_object t e
  unfolding value
  value_on zero e l k = absurd (on_none t goes m e k)
  value_on (suc n) e l k = by (on_view t goes m n e k) (λ j o a b. value_on n j a b)
    where
      by : {o : Offer} → Handed t m (offers_on t goes m n) e o → ((j : ℕ) (o : Offer) → j < edges t → In o (offers_on t goes m n j) → is_some (value o) ≡ is_object t j)
          → is_some (value o) ≡ is_object t e
      by (starts c f) ih = first-value t m e ((table-good t limits g).edge e l).may_leave_is c f
      by (extends {j = j} {o = o} c d i u) ih = ih j o (in_into t (source t e) i).0 u ∙ same_kind t g e l j c d i
      by (joins {w = w} c d v) ih = way_value t (offers_on t goes m n) ih (λ j i. (in_into t (source t e) i).0) v ∙ join_kind t g e l d

  -- one on an object edge has a value, one on a control edge has none
  pub object_value : (n e : ℕ) {o : Offer} → e < edges t → is_object t e ≡ true → In o (offers_on t goes m n e) → (v : ℕ) × (value o ≡ some v)
  object_value n e {o} l h k = by (value o) refl (value_on n e l k ∙ h)
    where
      by : (w : Option ℕ) → value o ≡ w → is_some w ≡ true → (v : ℕ) × (value o ≡ some v)
      by none q s = never false s refl
      by (some v) q s = (v, q)

  pub control-value : (n e : ℕ) {o : Offer} → e < edges t → is_object t e ≡ false → In o (offers_on t goes m n e) → value o ≡ none
  control-value n e {o} l h k = by (value o) refl (value_on n e l k ∙ h)
    where
      by : (w : Option ℕ) → value o ≡ w → is_some w ≡ false → value o ≡ none
      by none q s = q
      by (some v) q s = never true refl s

  -- so for every offer of the table
  pub offer-value : (o : Offer) → elem o (offers t goes m) ≡ true → is_some (value o) ≡ is_object t (last_edge o)
  offer-value o k =
      let r = in_offers t goes m (elem_in (offers t goes m) k) in
      value_on limits.longest_path r.0 r.1 r.2 ∙ ap (is_object t) (sym (on-last t goes m limits.longest_path r.0 r.2))

-- ---- "The value is that of the object edge's offer."
-- of the offer o, made at a join: it was joined from one offer on every incoming edge; the value is that of the one on the object edge, and none
-- where there is no object edge
pub record ObjectEdgesValue (t : List ℕ) (o : Offer) : Type 0 where
  pub one_each : (j : ℕ) → In j (into t (made_at t o)) → (p : Offer) × In p (origins o) × (last_edge p ≡ j)
  pub is_that : (p : Offer) → In p (origins o) → is_object t (last_edge p) ≡ true → value o ≡ value p
  pub none_without : any (is_object t) (into t (made_at t o)) ≡ false → value o ≡ none

pub with-parts : (o p : Offer) → parts (with o p) ≡ parts o ++ parts p
unfolding parts
with-parts o p = refl

part_left : (o w : Offer) {p : Offer} → In p (parts o) → In p (parts (with o w))
unfolding parts
part_left o w m = append_left (parts w) m

part_right : (o w : Offer) {p : Offer} → In p (parts w) → In p (parts (with o w))
unfolding parts
part_right o w m = append_right (parts o) m

pub no_value : (v : Option ℕ) → is_some v ≡ false → v ≡ none
no_value none h = refl
no_value (some x) h = never true refl h

module _ (t : List ℕ) (on : ℕ → List Offer) (alone-parts : (j : ℕ) (o : Offer) → In o (on j) → parts o ≡ o ∷ []) (last : (j : ℕ) (o : Offer) → In o (on j) → last_edge o ≡ j) where
  pub way_each : {js : List ℕ} {w : Offer} → Way t on js w → (j : ℕ) → In j js → (p : Offer) × In p (parts w) × (last_edge p ≡ j)
  way_each (alone {j = j} {o = o} k) i m = (o, rw (alone-parts j o k) (here refl), last j o k ∙ sym (in_one m))
  way_each (beside {j = j} {o = o} {w = w} k r c) i m =
      ⊎_elim (λ e. (o, part_left o w (rw (alone-parts j o k) (here refl)), last j o k ∙ sym e))
      (λ l. let s = way_each r i l in (s.0, part_right o w s.1, s.2)) (in-cons m)

  -- the edges that the parts are on
  pub part_edge : {js : List ℕ} {w : Offer} → Way t on js w → (p : Offer) → In p (parts w) → In (last_edge p) js
  part_edge v p m =
      let s = way_from t on parts with-parts v m in
      let e : p ≡ s.1 = in_one (rw (alone-parts s.0 s.1 s.3) at s.4) in
      in-equal (ap last_edge e ∙ last s.0 s.1 s.3) s.2

  way_object : ((j : ℕ) (o : Offer) → j < edges t → In o (on j) → is_some (value o) ≡ is_object t j)
      → {js : List ℕ} {w : Offer} → ((j : ℕ) → In j js → j < edges t) → Way t on js w → count (is_object t) js ≤ 1
      → (p : Offer) → In p (parts w) → is_object t (last_edge p) ≡ true → value w ≡ value p
  unfolding value
  way_object h l (alone {j = j} {o = o} k) one p m b = ap value (sym (in_one (rw (alone-parts j o k) at m)))
  way_object h l (beside {j = j} {k = i} {js = js} {o = o} {w = w} k r c) one p m b =
      ⊎_elim (λ q. mine (in_one (rw (alone-parts j o k) at q))) (λ q. theirs q (λ u. way_object h (λ a d. l a (later d)) r u p q b)) (in-append (parts o) (rw (with-parts o w) at m))
    where
      held : (v u : Option ℕ) → is_some v ≡ true → or_else v u ≡ v
      held none u e = never false e refl
      held (some x) u e = refl

      mine : p ≡ o → or_else (value o) (value w) ≡ value p
      mine e =
          held (value o) (value w) (h j o (l j (here refl)) k ∙ ap (is_object t) (sym (last j o k) ∙ ap last_edge (sym e)) ∙ b)
          ∙ ap value (sym e)

      -- an object edge among the others: this one is none
      theirs : In p (parts w) → (count (is_object t) (i ∷ js) ≤ 1 → value w ≡ value p) → or_else (value o) (value w) ≡ value p
      theirs q rest = by (is_object t j) refl one
        where
          others : 1 ≤ count (is_object t) (i ∷ js)
          others = leb-true 1 _ (sym (any-count (is_object t) (i ∷ js)) ∙ in_any (is_object t) (part_edge r p q) b)

          by : (x : Bool) → is_object t j ≡ x → cond x (suc (count (is_object t) (i ∷ js))) (count (is_object t) (i ∷ js)) ≤ 1 → or_else (value o) (value w) ≡ value p
          by true e u = let z : ⊥ = omega (arith, others, u) in absurd z
          by false e u =
              ap (λ (v : Option ℕ). or_else v (value w)) (no_value (value o) (h j o (l j (here refl)) k ∙ e))
              ∙ rest u

  -- at most one of the offers taken has a value, so a way passes a test on values exactly if each of them does
  way_passes : ((j : ℕ) (o : Offer) → j < edges t → In o (on j) → is_some (value o) ≡ is_object t j)
      → {js : List ℕ} {w : Offer} → ((j : ℕ) → In j js → j < edges t) → Way t on js w → count (is_object t) js ≤ 1
      → (p : Option ℕ → Bool) → p none ≡ true → p (value w) ≡ all (λ q. p (value q)) (parts w)
  unfolding value
  way_passes h l (alone {j = j} {o = o} k) one p free = rw (alone-parts j o k) (sym (mathlib.Core.Bool.and-true (p (value o))))
  way_passes h l (beside {j = j} {k = i} {js = js} {o = o} {w = w} k r c) one p free =
      by (is_object t j) refl one (λ u. way_passes h (λ a d. l a (later d)) r u p free)
    where
      mine : all (λ q. p (value q)) (parts o) ≡ p (value o)
      mine = rw (alone-parts j o k) (mathlib.Core.Bool.and-true (p (value o)))

      both : all (λ q. p (value q)) (parts (with o w)) ≡ p (value o) && all (λ q. p (value q)) (parts w)
      both =
          ap (all (λ q. p (value q))) (with-parts o w) ∙ all_append (λ q. p (value q)) (parts o) (parts w)
          ∙ ap (λ (b : Bool). b && all (λ q. p (value q)) (parts w)) mine

      or_none : (v : Option ℕ) → or_else v none ≡ v
      or_none none = refl
      or_none (some x) = refl

      by : (x : Bool) → is_object t j ≡ x → cond x (suc (count (is_object t) (i ∷ js))) (count (is_object t) (i ∷ js)) ≤ 1
          → (count (is_object t) (i ∷ js) ≤ 1 → p (value w) ≡ all (λ q. p (value q)) (parts w))
          → p (or_else (value o) (value w)) ≡ all (λ q. p (value q)) (parts (with o w))
      by true e u rest =
          let without : any (is_object t) (i ∷ js) ≡ false = any-count (is_object t) (i ∷ js) ∙ lt-leb 1 (count (is_object t) (i ∷ js)) (omega (arith, u)) in
          let none-there : value w ≡ none = no_value (value w) (way_value t on h (λ a d. l a (later d)) r ∙ without) in
          ap (λ (v : Option ℕ). p (or_else (value o) v)) none-there ∙ ap p (or_none (value o))
          ∙ sym (both ∙ ap (λ (b : Bool). p (value o) && b) (sym (rest (omega (arith, u))) ∙ ap p none-there ∙ free) ∙ mathlib.Core.Bool.and-true (p (value o)))
      by false e u rest =
          let none_here : value o ≡ none = no_value (value o) (h j o (l j (here refl)) k ∙ e) in
          ap (λ (v : Option ℕ). p (or_else v (value w))) none_here ∙ rest u
          ∙ sym (both ∙ ap (λ (b : Bool). b && all (λ q. p (value q)) (parts w)) (ap p none_here ∙ free))

module _ (t : List ℕ) (goes : ℕ → Option ℕ → Bool) (m : Marking) (g : table_fine t limits ≡ good tt) where
  pub handed-parts : (n e : ℕ) {o : Offer} → In o (offers_on t goes m n e) → parts o ≡ o ∷ []
  unfolding parts
  handed-parts zero e k = absurd (on_none t goes m e k)
  handed-parts (suc n) e k = by (on_view t goes m n e k)
    where
      by : {o : Offer} → Handed t m (offers_on t goes m n) e o → parts o ≡ o ∷ []
      by (starts c f) = refl
      by (extends c d i u) = refl
      by (joins c d v) = refl

  -- a join's incoming edges: "at most one incoming object edge"
  pub one_object : (e : ℕ) → e < edges t → is_join (kind t (source t e)) ≡ true → count (is_object t) (into t (source t e)) ≤ 1
  unfolding join_fine
  one_object e l d = leb-true _ 1 (and-true (leb (count (is_object t) (into t (source t e))) 1) _ (if_true _ _ (at_source t g e l).join d)).0

  -- a way at a join passes a test on values exactly if each of the offers taken does
  pub joined_passes : (n e : ℕ) → e < edges t → is_join (kind t (source t e)) ≡ true → (p : Option ℕ → Bool) → p none ≡ true
      → (w : Offer) → In w (ways t (each (offers_on t goes m n) (into t (source t e)))) → p (value w) ≡ all (λ q. p (value q)) (parts w)
  joined_passes n e l d p free w k =
      way_passes t (offers_on t goes m n) (λ j o. handed-parts n j) (λ j o. on-last t goes m n j) (λ j o a b. value_on t goes m g n j a b)
      (λ j i. (in_into t (source t e) i).0) (way_of t (offers_on t goes m n) (into t (source t e)) k) (one_object e l d) p free

  -- what a join hands on to edge e
  joined_value : (n e : ℕ) {o : Offer} → e < edges t → is_join (kind t (source t e)) ≡ true → In o (offers_on t goes m n e) → ObjectEdgesValue t o
  unfolding value origins last_edge
  joined_value zero e l d k = absurd (on_none t goes m e k)
  joined_value (suc n) e l d k = by (on_view t goes m n e k)
    where
      control : is_control_node (kind t (source t e)) ≡ true
      control = ap is_control_node (eqb-true (kind t (source t e)) 11 d)

      inside : (j : ℕ) → In j (into t (source t e)) → j < edges t
      inside j i = (in_into t (source t e) i).0

      valued : (j : ℕ) (o : Offer) → j < edges t → In o (offers_on t goes m n j) → is_some (value o) ≡ is_object t j
      valued j o a b = value_on t goes m g n j a b

      by : {o : Offer} → Handed t m (offers_on t goes m n) e o → ObjectEdgesValue t o
      by (starts c f) = never _ control c
      by (extends c f i u) = never _ d f
      by (joins {w = w} c f v) = record {
        one_each = way_each t (offers_on t goes m n) (λ j o. handed-parts n j) (λ j o. on-last t goes m n j) v;
        is_that = way_object t (offers_on t goes m n) (λ j o. handed-parts n j) (λ j o. on-last t goes m n j) valued inside v (one_object e l d);
        none_without = λ h. no_value (value w) (way_value t (offers_on t goes m n) valued inside v ∙ h);
      }

  pub value-of_object_edge : (o : Offer) → elem o (offers t goes m) ≡ true → is_join (kind t (made_at t o)) ≡ true → ObjectEdgesValue t o
  value-of_object_edge o k d =
      let r = in_offers t goes m (elem_in (offers t goes m) k) in
      joined_value limits.longest_path r.0 r.1 (ap (λ j. is_join (kind t (source t j))) (sym (on-last t goes m limits.longest_path r.0 r.2)) ∙ d) r.2
