-- Wish 2, "one round token": two offers of one round have values, and so has every offer that one of them makes; so no two of them meet at a join, where at most one edge
-- has values. What they have in common they spend once. Assumes nothing.
use mathlib.Core.Path.{◌≡◌, refl, sym, ap, ◌∙◌, subst}
use Prim.Native.Nat.{ℕ, zero, suc, ◌<◌}
use mathlib.Core.Bool.{Bool, true, false, not, ◌&&◌, cond}
use mathlib.Core.Logic.{⊎_elim}
use mathlib.Core.List.{List, [], ◌∷◌}
use mathlib.Core.Option.{Option, none, some}
use borrow.Author.Tests.{eqb-true, not-true}
use Rattle.paper.specs.Lists.{all, any, gather}
use Rattle.paper.specs.Limits.{limits}
use Rattle.paper.specs.Answers.{good}
use Rattle.paper.specs.Table.{edges, kind, source, into, out, is_join, is_control_node, is_activity_final, is_object, is_control, table_fine}
use Rattle.paper.specs.Marking.{Marking, ended_of}
use Rattle.paper.specs.Offers.{Offer, first, over, with, parts, value, is_some, or_else, elem, last_edge, makers, origins, all_the_same, object_offers, control_offers, one_round, made_at, target_of, offers_on, offers}
use Rattle.paper.specs.Choices.{Board, taken_ends, spent, spend, gain, close, next}
use Rattle.paper.proofs.Bools.{never, and-true, and_both, and-false, false_if}
use Rattle.paper.proofs.Members.{In, here, later, in_one, in-cons, in-equal, in-append, in_gather, gather_in, all_in, in_all, in_keep, keep_in, keep-none, Distinct}
use Rattle.paper.proofs.Sameness.{elem_in, in_elem, on-last}
use Rattle.paper.proofs.Origins.{Handed, starts, extends, joins, Way, alone, beside, way_from, on_none, on_view, in_offers, in_into, distinct-into}
use Rattle.paper.proofs.Competing.{with-makers}
use Rattle.paper.proofs.Values.{value_on, join_out, no_value, with-parts, way_each, part_edge, handed-parts}

-- ---- no value
or_none : (v w : Option ℕ) → or_else v w ≡ none → (v ≡ none) × (w ≡ none)
or_none none w h = (refl, h)
or_none (some v) w h = never true refl (ap is_some h)

-- what has no value is made of offers that have none
valueless_makers : (o : Offer) → value o ≡ none → {b : Offer} → In b (makers o) → value b ≡ none
unfolding value makers
valueless_makers (first e v) h k = ap value (in_one k) ∙ h
valueless_makers (over o e) h k = ⊎_elim (λ q. ap value q ∙ h) (λ l. valueless_makers o h l) (in-cons k)
valueless_makers (with o p) h k =
    let r = or_none (value o) (value p) h in
    ⊎_elim (λ l. valueless_makers o r.0 l) (λ l. valueless_makers p r.1 l) (in-append (makers o) k)

valueless_parts : (o : Offer) → value o ≡ none → {p : Offer} → In p (parts o) → value p ≡ none
unfolding value parts
valueless_parts (first e v) h k = ap value (in_one k) ∙ h
valueless_parts (over o e) h k = ap value (in_one k) ∙ h
valueless_parts (with o p) h k =
    let r = or_none (value o) (value p) h in
    ⊎_elim (λ l. valueless_parts o r.0 l) (λ l. valueless_parts p r.1 l) (in-append (parts o) k)

valueless_objects : (o : Offer) → value o ≡ none → object_offers o ≡ []
unfolding object_offers origins value
valueless_objects (first e v) h = refl
valueless_objects (over o e) h = keep-none (λ p. is_some (value p)) (parts o) (λ p k. ap is_some (valueless_parts o h k))
valueless_objects (with o p) h = refl

-- of two offers of one round one has a value
round_values : (a b : Offer) → value a ≡ none → value b ≡ none → one_round a b ≡ false
unfolding one_round
round_values a b f g = rw (valueless_objects a f, valueless_objects b g)

valued : (o : Offer) → (value o ≡ none → ⊥) → is_some (value o) ≡ true
valued o h = by (value o) h
  where
    by : (v : Option ℕ) → (v ≡ none → ⊥) → is_some v ≡ true
    by none f = absurd (f refl)
    by (some v) f = refl

module _ (t : List ℕ) (goes : ℕ → Option ℕ → Bool) (m : Marking) where
  -- b is an offer on some edge
  abbrev Placed : Offer → Type 0
  Placed b = (k : ℕ) × (j : ℕ) × (j < edges t) × In b (offers_on t goes m k j)

  -- a maker of an offer is an offer too
  maker_on : (n e : ℕ) {o b : Offer} → e < edges t → In o (offers_on t goes m n e) → In b (makers o) → Placed b
  unfolding makers
  maker_on zero e l x y = absurd (on_none t goes m e x)
  maker_on (suc n) e {b = b} l x y = by (on_view t goes m n e x) x y (λ j p i u v. maker_on n j i u v)
    where
      itself : {o : Offer} → In o (offers_on t goes m (suc n) e) → b ≡ o → Placed b
      itself x q = (suc n, e, l, subst (λ z. In z (offers_on t goes m (suc n) e)) (sym q) x)

      by : {o : Offer} → Handed t m (offers_on t goes m n) e o → In o (offers_on t goes m (suc n) e) → In b (makers o)
          → ((j : ℕ) (p : Offer) → j < edges t → In p (offers_on t goes m n j) → In b (makers p) → Placed b) → Placed b
      by (starts c f) x y ih = itself x (in_one y)
      by (extends {j = j} {o = o} c d i u) x y ih = ⊎_elim (λ q. itself x q) (λ k. ih j o (in_into t (source t e) i).0 u k) (in-cons y)
      by (joins {w = w} c d v) x y ih =
          ⊎_elim (λ q. itself x q)
          (λ k. let r = way_from t (offers_on t goes m n) makers with-makers v k in ih r.0 r.1 (in_into t (source t e) r.2).0 r.3 r.4) (in-cons y)

  module _ (g : table_fine t limits ≡ good tt) where
    -- offers of one join have a value together
    one_join_values : (k i j l : ℕ) {a b : Offer} → i < edges t → l < edges t → In a (offers_on t goes m k i) → In b (offers_on t goes m j l)
        → made_at t a ≡ made_at t b → is_join (kind t (made_at t a)) ≡ true → is_some (value a) ≡ is_some (value b)
    one_join_values k i j l {a} {b} si sl x y e d =
        let p = on-last t goes m k i x in
        let q = on-last t goes m j l y in
        let same-node : source t i ≡ source t l = ap (source t) (sym p) ∙ e ∙ ap (source t) q in
        let at_i : is_join (kind t (source t i)) ≡ true = ap (λ z. is_join (kind t (source t z))) (sym p) ∙ d in
        let one : i ∷ [] ≡ l ∷ [] = sym (join_out t g i si at_i) ∙ ap (out t) same-node ∙ join_out t g l sl (ap (λ z. is_join (kind t z)) (sym same-node) ∙ at_i) in
        let same-edge : i ≡ l = cc in
        value_on t goes m g k i si x ∙ ap (is_object t) same-edge ∙ sym (value_on t goes m g j l sl y)

    -- makers of one round: the offers that they make have values
    pub round_valued : (n e k f : ℕ) {o p a b : Offer} → e < edges t → f < edges t → In o (offers_on t goes m n e) → In p (offers_on t goes m k f) → In a (makers o) → In b (makers p)
        → made_at t a ≡ made_at t b → is_join (kind t (made_at t a)) ≡ true → one_round a b ≡ true → (is_some (value o) ≡ true) × (is_some (value p) ≡ true)
    round_valued n e k f {o} {p} {a} {b} le lf x y u v s d h =
        let r = maker_on n e le x u in
        let q = maker_on k f lf y v in
        let w = one_join_values r.0 r.1 q.0 q.1 r.2 q.2 r.3 q.3 s d in (
          valued o (λ z. both (valueless_makers o z u) w),
          valued p (λ z. other (valueless_makers p z v) w),
        )
      where
        both : value a ≡ none → is_some (value a) ≡ is_some (value b) → ⊥
        both z w = never (one_round a b) h (round_values a b z (no_value (value b) (sym w ∙ ap is_some z)))

        other : value b ≡ none → is_some (value a) ≡ is_some (value b) → ⊥
        other z w = never (one_round a b) h (round_values a b (no_value (value a) (w ∙ ap is_some z)) z)

-- ---- edge by edge
-- what an offer of a join was joined from: on each of the join's edges one offer, with a value exactly on the object edge
record JoinedFrom (t : List ℕ) (o : Offer) : Type 0 where
  on-edges : (q : Offer) → In q (origins o) → In (last_edge q) (into t (made_at t o))
  on-each : (j : ℕ) → In j (into t (made_at t o)) → (q : Offer) × In q (origins o) × (last_edge q ≡ j)
  on_one : (q r : Offer) → In q (origins o) → In r (origins o) → last_edge q ≡ last_edge r → q ≡ r
  has_value : (q : Offer) → In q (origins o) → is_some (value q) ≡ is_object t (last_edge q)

module _ (t : List ℕ) (on : ℕ → List Offer) (alone-parts : (j : ℕ) (o : Offer) → In o (on j) → parts o ≡ o ∷ []) (last : (j : ℕ) (o : Offer) → In o (on j) → last_edge o ≡ j) where
  -- a way has one offer on an edge
  way_one : {js : List ℕ} {w : Offer} → Distinct js → Way t on js w → (q r : Offer) → In q (parts w) → In r (parts w) → last_edge q ≡ last_edge r → q ≡ r
  way_one d (alone {j = j} {o = o} k) q r x y e = in_one (rw (alone-parts j o k) at x) ∙ sym (in_one (rw (alone-parts j o k) at y))
  way_one d (beside {j = j} {k = i} {js = js} {o = o} {w = w} k v c) q r x y e =
      ⊎_elim
      (λ a. ⊎_elim (λ b. in_one (rw (alone-parts j o k) at a) ∙ sym (in_one (rw (alone-parts j o k) at b))) (λ b. absurd (elsewhere q r a b e)) (in-append (parts o) (rw (with-parts o w) at y)))
      (λ a. ⊎_elim (λ b. absurd (elsewhere r q b a (sym e))) (λ b. way_one d.1 v q r a b e) (in-append (parts o) (rw (with-parts o w) at y)))
      (in-append (parts o) (rw (with-parts o w) at x))
    where
      elsewhere : (q r : Offer) → In q (parts o) → In r (parts w) → last_edge q ≡ last_edge r → ⊥
      elsewhere q r a b e =
          d.0 (in-equal (sym (last j o k) ∙ ap last_edge (sym (in_one (rw (alone-parts j o k) at a))) ∙ e) (part_edge t on alone-parts last v r b))

module _ (t : List ℕ) (goes : ℕ → Option ℕ → Bool) (m : Marking) (g : table_fine t limits ≡ good tt) where
  joined_from : (n e : ℕ) {o : Offer} → e < edges t → is_join (kind t (source t e)) ≡ true → In o (offers_on t goes m n e) → JoinedFrom t o
  unfolding origins last_edge
  joined_from zero e l d k = absurd (on_none t goes m e k)
  joined_from (suc n) e l d k = by (on_view t goes m n e k)
    where
      control : is_control_node (kind t (source t e)) ≡ true
      control = ap is_control_node (eqb-true (kind t (source t e)) 11 d)

      lone : (j : ℕ) (o : Offer) → In o (offers_on t goes m n j) → parts o ≡ o ∷ []
      lone j o = handed-parts t goes m g n j

      last : (j : ℕ) (o : Offer) → In o (offers_on t goes m n j) → last_edge o ≡ j
      last j o = on-last t goes m n j

      valued_part : {w : Offer} → Way t (offers_on t goes m n) (into t (source t e)) w → (q : Offer) → In q (parts w) → is_some (value q) ≡ is_object t (last_edge q)
      valued_part v q x =
          let r = way_from t (offers_on t goes m n) parts with-parts v x in
          let s : q ≡ r.1 = in_one (rw (lone r.0 r.1 r.3) at r.4) in
          ap (λ (z : Offer). is_some (value z)) s ∙ value_on t goes m g n r.0 (in_into t (source t e) r.2).0 r.3
          ∙ ap (is_object t) (sym (last r.0 r.1 r.3) ∙ ap last_edge (sym s))

      by : {o : Offer} → Handed t m (offers_on t goes m n) e o → JoinedFrom t o
      by (starts c f) = never _ control c
      by (extends c f i u) = never _ d f
      by (joins {w = w} c f v) = record {
        on-edges = part_edge t (offers_on t goes m n) lone last v;
        on-each = way_each t (offers_on t goes m n) lone last v;
        on_one = way_one t (offers_on t goes m n) lone last (distinct-into t (source t e)) v;
        has_value = valued_part v;
      }

-- wish 2 read edge by edge: on each control edge of the join the two took the same offer, and on its object edge not
pub record ByEdges (t : List ℕ) (o p : Offer) : Type 0 where
  pub control-same : (q r : Offer) → In q (origins o) → In r (origins p) → last_edge q ≡ last_edge r → is_control t (last_edge q) ≡ true → q ≡ r
  pub object_differs : (q : Offer) × (r : Offer) × In q (origins o) × In r (origins p) × (last_edge q ≡ last_edge r) × (is_object t (last_edge q) ≡ true) × (q ≡ r → ⊥)

-- not all pass: one doesn't
fails : (p : Offer → Bool) (xs : List Offer) → all p xs ≡ false → (x : Offer) × In x xs × (p x ≡ false)
fails p [] h = never true refl h
fails p (x ∷ xs) h = by (p x) refl h (fails p xs)
  where
    by : (b : Bool) → p x ≡ b → b && all p xs ≡ false → (all p xs ≡ false → (y : Offer) × In y xs × (p y ≡ false)) → (y : Offer) × In y (x ∷ xs) × (p y ≡ false)
    by true e q ih = let r = ih q in (r.0, later r.1, r.2)
    by false e q ih = (x, here refl, e)

module _ (o : Offer) {q : Offer} where
  in_objects : In q (object_offers o) → In q (origins o) × (is_some (value q) ≡ true)
  unfolding object_offers
  in_objects k = in_keep (λ q. is_some (value q)) (origins o) k

  objects_in : In q (origins o) → is_some (value q) ≡ true → In q (object_offers o)
  unfolding object_offers
  objects_in k h = keep_in (λ q. is_some (value q)) k h

  in_controls : In q (control_offers o) → In q (origins o) × (not (is_some (value q)) ≡ true)
  unfolding control_offers
  in_controls k = in_keep (λ q. not (is_some (value q))) (origins o) k

  controls_in : In q (origins o) → not (is_some (value q)) ≡ true → In q (control_offers o)
  unfolding control_offers
  controls_in k h = keep_in (λ q. not (is_some (value q))) k h

-- an offer taken for a, and what b took on the same edge
beside_it : (t : List ℕ) (a b : Offer) → JoinedFrom t a → JoinedFrom t b → made_at t a ≡ made_at t b → (q : Offer) → In q (origins a) → (r : Offer) × In r (origins b) × (last_edge r ≡ last_edge q)
beside_it t a b ja jb s q x = jb.on-each (last_edge q) (subst (λ (n : ℕ). In (last_edge q) (into t n)) s (ja.on-edges q x))

module _ (t : List ℕ) (o p : Offer) (jo : JoinedFrom t o) (jp : JoinedFrom t p) (at_one : made_at t o ≡ made_at t p) where
  by_edges : one_round o p ≡ true → ByEdges t o p
  unfolding one_round
  by_edges h =
      let s = and-true (not (all_the_same (object_offers o) (object_offers p))) _ h in
      let c = and-true (all (λ q. elem q (control_offers p)) (control_offers o)) _ s.1 in
      record {
        control-same = λ q r x y e k.
            let z = in_controls p (elem_in (control_offers p) (all_in (λ q. elem q (control_offers p)) c.0 (controls_in o x (ap not (jo.has_value q x) ∙ k)))) in
            jp.on_one q r z.0 y e;
        object_differs = ⊎_elim (λ f. forth (fails (λ q. elem q (object_offers p)) (object_offers o) f)) (λ f. back (fails (λ q. elem q (object_offers o)) (object_offers p) f))
            (and-false (all (λ q. elem q (object_offers p)) (object_offers o)) _ (not-true _ s.0));
      }
    where
      forth : (x : Offer) × In x (object_offers o) × (elem x (object_offers p) ≡ false)
          → (q : Offer) × (r : Offer) × In q (origins o) × In r (origins p) × (last_edge q ≡ last_edge r) × (is_object t (last_edge q) ≡ true) × (q ≡ r → ⊥)
      forth f =
          let x = in_objects o f.1 in
          let r = beside_it t o p jo jp at_one f.0 x.0 in (
            f.0,
            r.0,
            x.0,
            r.1,
            sym r.2,
            sym (jo.has_value f.0 x.0) ∙ x.1,
            λ e. never (elem f.0 (object_offers p)) (in_elem (objects_in p (in-equal e r.1) x.1)) f.2,
          )

      back : (x : Offer) × In x (object_offers p) × (elem x (object_offers o) ≡ false)
          → (q : Offer) × (r : Offer) × In q (origins o) × In r (origins p) × (last_edge q ≡ last_edge r) × (is_object t (last_edge q) ≡ true) × (q ≡ r → ⊥)
      back f =
          let x = in_objects p f.1 in
          let r = beside_it t p o jp jo (sym at_one) f.0 x.0 in (
            r.0,
            f.0,
            r.1,
            x.0,
            r.2,
            ap (is_object t) r.2 ∙ sym (jp.has_value f.0 x.0) ∙ x.1,
            λ e. never (elem f.0 (object_offers o)) (in_elem (objects_in o (in-equal (sym e) r.1) x.1)) f.2,
          )

  module _ (h : ByEdges t o p) where
    objects_differ : all_the_same (object_offers o) (object_offers p) ≡ true → ⊥
    objects_differ e =
        let d = h.object_differs in
        let k = objects_in o d.2 (jo.has_value d.0 d.2 ∙ d.5) in
        let y = in_objects p (elem_in (object_offers p) (all_in (λ q. elem q (object_offers p)) (and-true (all (λ q. elem q (object_offers p)) (object_offers o)) _ e).0 k)) in
        d.6 (jp.on_one d.0 d.1 y.0 d.3 d.4)

    controls_there : all (λ q. elem q (control_offers p)) (control_offers o) ≡ true
    controls_there = in_all (λ q. elem q (control_offers p)) (control_offers o) (λ q k.
        let x = in_controls o k in
        let r = beside_it t o p jo jp at_one q x.0 in
        let e = h.control-same q r.0 x.0 r.1 (sym r.2) (ap not (sym (jo.has_value q x.0)) ∙ x.1) in
        in_elem (controls_in p (in-equal e r.1) x.1))

    controls_back : all (λ q. elem q (control_offers o)) (control_offers p) ≡ true
    controls_back = in_all (λ q. elem q (control_offers o)) (control_offers p) (λ q k.
        let x = in_controls p k in
        let r = beside_it t p o jp jo (sym at_one) q x.0 in
        let e = h.control-same r.0 q r.1 x.0 r.2 (ap (λ (z : ℕ). not (is_object t z)) r.2 ∙ ap not (sym (jp.has_value q x.0)) ∙ x.1) in
        in_elem (controls_in o (in-equal (sym e) r.1) x.1))

    edges_by : one_round o p ≡ true
    unfolding one_round
    edges_by = and_both _ _ (ap not (false_if (all_the_same (object_offers o) (object_offers p)) objects_differ)) (and_both _ _ controls_there controls_back)

-- two offers of one join, on a good table, are of one round exactly if they are edge by edge
module _ (t : List ℕ) (goes : ℕ → Option ℕ → Bool) (m : Marking) (g : table_fine t limits ≡ good tt) (o p : Offer) (io : elem o (offers t goes m) ≡ true) (ip : elem p (offers t goes m) ≡ true)
    (at_one : made_at t o ≡ made_at t p) (join : is_join (kind t (made_at t o)) ≡ true) where
  joined : (q : Offer) → elem q (offers t goes m) ≡ true → is_join (kind t (made_at t q)) ≡ true → JoinedFrom t q
  joined q k d =
      let r = in_offers t goes m (elem_in (offers t goes m) k) in
      joined_from t goes m g limits.longest_path r.0 r.1 (ap (λ j. is_join (kind t (source t j))) (sym (on-last t goes m limits.longest_path r.0 r.2)) ∙ d) r.2

  pub round_by_edges : one_round o p ≡ true → ByEdges t o p
  round_by_edges = by_edges t o p (joined o io join) (joined p ip (ap (λ (n : ℕ). is_join (kind t n)) (sym at_one) ∙ join)) at_one

  pub edges_by_round : ByEdges t o p → one_round o p ≡ true
  edges_by_round = edges_by t o p (joined o io join) (joined p ip (ap (λ (n : ℕ). is_join (kind t n)) (sym at_one) ∙ join)) at_one

-- ---- the tokens in common
-- what their control offers were made of is the same, first offers and so tokens too: "each first offer among the makers of taken ends is spent", one time
pub same-tokens : (o p : Offer) → one_round o p ≡ true → (x : Offer) → In x (gather makers (control_offers o)) → In x (gather makers (control_offers p))
unfolding one_round
same-tokens o p h x k =
    let r = in_gather makers (control_offers o) k in
    let s = and-true (all (λ q. elem q (control_offers p)) (control_offers o)) _ (and-true (not (all_the_same (object_offers o) (object_offers p))) _ h).1 in
    gather_in makers (elem_in (control_offers p) (all_in (λ q. elem q (control_offers p)) s.0 r.1)) r.2

-- "a control edge goes to 0": whether one taken end was made of its token or several were, and whatever the count was
pub token_spent : (d : Board) (c e : ℕ) → spent d c e ≡ true → (next d c).tokens e ≡ 0
unfolding next close gain spend ended_of
token_spent d c e h = by (any (λ o. is_activity_final (kind d.table (target_of d.table o))) (taken_ends d c))
  where
    by : (f : Bool) → (cond f (ended_of d.table (gain d c (spend d c d.current))) (gain d c (spend d c d.current))).tokens e ≡ 0
    by true = refl
    by false = rw h
