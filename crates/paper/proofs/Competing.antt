-- "Two offers compete": as one equation, symmetric, and no offer competes with itself. Assumes nothing.
use mathlib.Core.Path.{◌≡◌, refl, sym, ap, ◌∙◌}
use Prim.Native.Nat.{ℕ, zero, suc, ◌<◌}
use mathlib.Core.Bool.{Bool, true, false, not, ◌&&◌, ◌||◌, and_comm}
use mathlib.Core.Logic.{⊎_elim}
use mathlib.Core.List.{List, ◌∷◌, ◌++◌}
use mathlib.Core.Option.{Option}
use lib.Dec.{eqb, leb}
use native.Mathlib.Omega.{arith}
use borrow.Author.Tests.{eqb-true, eq-eqb, leb-true, lt-leb, not-true}
use Rattle.paper.specs.Lists.{all, any}
use Rattle.paper.specs.Limits.{limits}
use Rattle.paper.specs.Answers.{good}
use Rattle.paper.specs.Table.{edges, kind, source, into, chain, is_control_node, is_decision, is_join, is_object_node, table_fine}
use Rattle.paper.specs.Marking.{Marking}
use Rattle.paper.specs.Offers.{Offer, first, over, with, same, elem, parts, last_edge, makers, is_first, origins, share, all_the_same, object_offers, control_offers, one_round, made_at, of_one_stock, of_one_decision, of_one_join, clash, compete, offers_on, offers}
use Rattle.paper.proofs.Bools.{never, and-true, and_both, false_if, true_or_false, iff}
use Rattle.paper.proofs.Members.{In, here, later, in_one, in-cons, in-append, append_left, append_right, any_in, in_any, any_none, none_any}
use Rattle.paper.proofs.Sameness.{same_eq, eq_same, elem_in, in_elem}
use Rattle.paper.proofs.Origins.{Handed, starts, extends, joins, Way, alone, beside, way_from, on_none, on_view, in_offers, in_into}
use Rattle.paper.proofs.Fuel.{chain_shorter, chain_longer}
use Rattle.paper.proofs.Tables.{table-good, source_no_chain}

-- ---- clashing
pub share-sym : (os ps : List Offer) → share os ps ≡ share ps os
share-sym os ps = iff _ _ (turned os ps) (turned ps os)
  where
    turned : (os ps : List Offer) → share os ps ≡ true → share ps os ≡ true
    turned os ps h = let r = any_in (λ o. elem o ps) os h in in_any (λ o. elem o os) (elem_in ps r.2) (in_elem r.1)

-- ---- wish 2: offers of one round
all-same-sym : (os ps : List Offer) → all_the_same os ps ≡ all_the_same ps os
all-same-sym os ps = and_comm (all (λ o. elem o ps) os) (all (λ p. elem p os) ps)

pub one_round_sym : (o p : Offer) → one_round o p ≡ one_round p o
unfolding one_round
one_round_sym o p = rw (all-same-sym (object_offers o) (object_offers p), all-same-sym (control_offers o) (control_offers p))

module _ (t : List ℕ) where
  -- what two offers of a join may still clash by
  abbrev pub joined_alike : Offer → Offer → Bool
  joined_alike o p = is_decision (kind t (made_at t o)) || (is_join (kind t (made_at t o)) && not (one_round o p))

  -- made at the same node, both the first offers of an object node, or at a decision or join of an offer in common
  abbrev alike : Offer → Offer → Bool
  alike o p = (is_first o && is_first p && is_object_node (kind t (made_at t o))) || (share (origins o) (origins p) && joined_alike o p)

  clash-alike : (o p : Offer) → clash t o p ≡ eqb (made_at t o) (made_at t p) && alike o p
  unfolding clash of_one_stock of_one_decision of_one_join
  clash-alike o p =
      by (is_first o) (is_first p) (eqb (made_at t o) (made_at t p)) (is_object_node (kind t (made_at t o))) (is_decision (kind t (made_at t o))) (is_join (kind t (made_at t o))) (share (origins o) (origins p)) (not (one_round o p))
    where
      node : (d j h r : Bool) → d && h || j && h && r ≡ h && (d || (j && r))
      node true j true r = refl
      node true true false r = refl
      node true false false r = refl
      node false true true r = refl
      node false true false r = refl
      node false false true r = refl
      node false false false r = refl

      rest : (e d j h r : Bool) → e && d && h || e && j && h && r ≡ e && (h && (d || (j && r)))
      rest true d j h r = node d j h r
      rest false d j h r = refl

      by : (f g e s d j h r : Bool) → f && g && e && s || e && d && h || e && j && h && r ≡ e && ((f && g && s) || (h && (d || (j && r))))
      by true true true true d j h r = refl
      by true true true false d j h r = node d j h r
      by true true false s d j h r = refl
      by true false e s d j h r = rest e d j h r
      by false g e s d j h r = rest e d j h r

  -- the offer was made at an object node only as a first offer: so are all makers (`stock-firsts`)
  abbrev pub StockFirst : Offer → Type 0
  StockFirst o = is_object_node (kind t (made_at t o)) ≡ true → is_first o ≡ true

  -- so whether two offers clash, the node where they were made tells, and what they were made of
  pub clash-one : (o p : Offer) → StockFirst o → StockFirst p
      → clash t o p ≡ eqb (made_at t o) (made_at t p) && (is_object_node (kind t (made_at t o)) || (share (origins o) (origins p) && joined_alike o p))
  clash-one o p f g = clash-alike o p ∙ by (eqb (made_at t o) (made_at t p)) refl (is_object_node (kind t (made_at t o))) refl
    where
      by : (e : Bool) → eqb (made_at t o) (made_at t p) ≡ e → (s : Bool) → is_object_node (kind t (made_at t o)) ≡ s
          → e && ((is_first o && is_first p && s) || (share (origins o) (origins p) && joined_alike o p)) ≡ e && (s || (share (origins o) (origins p) && joined_alike o p))
      by false q s r = refl
      by true q true r = let z : made_at t o ≡ made_at t p = eqb-true _ _ q in rw (f r, g (rw z at r))
      by true q false r = rw (mathlib.Core.Bool.and-false (is_first o && is_first p))

  pub clash-at : (o p : Offer) → clash t o p ≡ true → made_at t o ≡ made_at t p
  clash-at o p h = eqb-true _ _ (and-true (eqb (made_at t o) (made_at t p)) _ (sym (clash-alike o p) ∙ h)).0

  turned : (o p : Offer) → clash t o p ≡ true → clash t p o ≡ true
  turned o p h =
      let e = clash-at o p h in
      let r : alike o p ≡ true = (and-true (eqb (made_at t o) (made_at t p)) _ (sym (clash-alike o p) ∙ h)).1 in
      clash-alike p o ∙ and_both _ _ (eq-eqb _ _ (sym e)) (rw (share-sym (origins p) (origins o), one_round_sym p o, sym e, and_comm (is_first p) (is_first o)) r)

  pub clash-sym : (o p : Offer) → clash t o p ≡ clash t p o
  clash-sym o p = iff _ _ (turned o p) (turned p o)

  -- ---- competing
  -- only an offer itself clashes across the two lists
  abbrev pub Free : List Offer → List Offer → Type 0
  Free os ps = (a b : Offer) → In a os → In b ps → clash t a b ≡ true → a ≡ b

  pub free-sym : (os ps : List Offer) → Free os ps → Free ps os
  free-sym os ps f a b k l h = sym (f b a l k (turned a b h))

  -- two offers that don't compete: only an offer itself clashes with a maker of the other
  pub not_competing : (o p : Offer) → compete t o p ≡ false → Free (makers o) (makers p)
  unfolding compete
  not_competing o p h a b k l c =
      let r = any_none (λ a. any (λ b. not (same a b) && clash t a b) (makers p)) h k in
      let s = any_none (λ b. not (same a b) && clash t a b) r l in
      ⊎_elim (λ e. same_eq a b e) (λ e. never _ (and_both _ _ (ap not e) c) s) (true_or_false (same a b))

  pub free-not : (o p : Offer) → Free (makers o) (makers p) → compete t o p ≡ false
  unfolding compete
  free-not o p f =
      none_any (λ a. any (λ b. not (same a b) && clash t a b) (makers p)) (makers o)
      (λ a k. none_any (λ b. not (same a b) && clash t a b) (makers p) (λ b l.
      false_if _ (λ h.
      let r = and-true (not (same a b)) _ h in
      never (same a b) (eq_same a b (f a b k l r.1)) (not-true _ r.0))))

  pub compete-sym : (o p : Offer) → compete t o p ≡ compete t p o
  compete-sym o p = by (compete t o p) refl (compete t p o) refl
    where
      by : (b : Bool) → compete t o p ≡ b → (c : Bool) → compete t p o ≡ c → compete t o p ≡ compete t p o
      by false e c f = e ∙ sym (free-not p o (free-sym (makers o) (makers p) (not_competing o p e)))
      by true e true f = e ∙ sym f
      by true e false f = free-not o p (free-sym (makers p) (makers o) (not_competing p o f)) ∙ sym f

-- ---- makers
pub with-makers : (o p : Offer) → makers (with o p) ≡ makers o ++ makers p
unfolding makers
with-makers o p = refl

-- the makers of offers taken together are makers of one of them
pub makers-parts : (o : Offer) {b : Offer} → In b (makers o) → (p : Offer) × In p (parts o) × In b (makers p)
unfolding makers parts
makers-parts (first e v) k = (first e v, here refl, k)
makers-parts (over o e) k = (over o e, here refl, k)
makers-parts (with o p) k =
    ⊎_elim (λ l. let r = makers-parts o l in (r.0, append_left (parts p) r.1, r.2))
    (λ l. let r = makers-parts p l in (r.0, append_right (parts o) r.1, r.2)) (in-append (makers o) k)

-- an object node is no control node, so what was made at a control node was not made at an object node
object_no_control : (k : ℕ) → is_object_node k ≡ true → is_control_node k ≡ false
object_no_control k h = rw (lt-leb 8 k (omega (arith, leb-true k 7 (and-true (leb 3 k) (leb k 7) h).1)))

pub control-made : (t : List ℕ) (o : Offer) → is_control_node (kind t (made_at t o)) ≡ true → StockFirst t o
control-made t o c s = never _ c (object_no_control (kind t (made_at t o)) s)

module _ (t : List ℕ) (goes : ℕ → Option ℕ → Bool) (m : Marking) where
  -- a chain of control nodes up to where a maker was made goes on to where the offer was made
  pub maker_chain : (n e k : ℕ) {o b : Offer} → In o (offers_on t goes m n e) → In b (makers o) → chain t k (made_at t b) ≡ true → chain t k (source t e) ≡ true
  unfolding makers last_edge
  maker_chain zero e k x y h = absurd (on_none t goes m e x)
  maker_chain (suc n) e k {b = b} x y h = by (on_view t goes m n e x) y (λ j p u v. maker_chain n j k u v h)
    where
      -- b is the offer itself, or a maker of one on an edge j into its node
      from : {o : Offer} → is_control_node (kind t (source t e)) ≡ true → In b (over o e ∷ makers o)
          → (In b (makers o) → (j : ℕ) × In j (into t (source t e)) × (chain t k (source t j) ≡ true)) → chain t k (source t e) ≡ true
      from c y f =
          ⊎_elim (λ q. ap (λ z. chain t k (made_at t z)) (sym q) ∙ h)
          (λ l. let r = f l in chain_shorter t k (source t e) (chain_longer t k (source t e) r.0 c r.1 r.2)) (in-cons y)

      by : {o : Offer} → Handed t m (offers_on t goes m n) e o → In b (makers o)
          → ((j : ℕ) (p : Offer) → In p (offers_on t goes m n j) → In b (makers p) → chain t k (source t j) ≡ true) → chain t k (source t e) ≡ true
      by (starts c f) y ih = ap (λ z. chain t k (made_at t z)) (sym (in_one y)) ∙ h
      by (extends {j = j} {o = o} c d i u) y ih = from c y (λ l. (j, i, ih j o u l))
      by (joins {w = w} c d v) y ih = from c y (λ l. let r = way_from t (offers_on t goes m n) makers with-makers v l in (r.0, r.2, ih r.0 r.1 r.3 r.4))

  -- a maker that was made at no control node is a first offer
  maker_first : (n e : ℕ) {o b : Offer} → In o (offers_on t goes m n e) → In b (makers o) → is_control_node (kind t (made_at t b)) ≡ false → is_first b ≡ true
  unfolding makers last_edge
  maker_first zero e x y h = absurd (on_none t goes m e x)
  maker_first (suc n) e {b = b} x y h = by (on_view t goes m n e x) y (λ j p u v. maker_first n j u v h)
    where
      later_on : {o : Offer} → is_control_node (kind t (source t e)) ≡ true → In b (over o e ∷ makers o) → (In b (makers o) → is_first b ≡ true) → is_first b ≡ true
      later_on c y f = ⊎_elim (λ q. never _ (ap (λ z. is_control_node (kind t (made_at t z))) q ∙ c) h) f (in-cons y)

      by : {o : Offer} → Handed t m (offers_on t goes m n) e o → In b (makers o)
          → ((j : ℕ) (p : Offer) → In p (offers_on t goes m n j) → In b (makers p) → is_first b ≡ true) → is_first b ≡ true
      by (starts c f) y ih = ap is_first (in_one y)
      by (extends {j = j} {o = o} c d i u) y ih = later_on c y (λ l. ih j o u l)
      by (joins {w = w} c d v) y ih = later_on c y (λ l. let r = way_from t (offers_on t goes m n) makers with-makers v l in ih r.0 r.1 r.3 r.4)

  -- "(a) first offers of the same object node": a maker made at an object node is a first offer, so to know the node is enough
  pub stock-firsts : (n e : ℕ) {o a : Offer} → In o (offers_on t goes m n e) → In a (makers o) → StockFirst t a
  stock-firsts n e {a = a} x y h = maker_first n e x y (object_no_control (kind t (made_at t a)) h)

  -- a maker made at a control node from which its offer comes again: chains of any length
  round : (n e j : ℕ) {o b : Offer} → is_control_node (kind t (source t e)) ≡ true → In j (into t (source t e)) → In o (offers_on t goes m n j) → In b (makers o)
      → made_at t b ≡ source t e → (k : ℕ) → chain t k (source t e) ≡ true
  unfolding chain
  round n e j c i x y h zero = refl
  round n e j c i x y h (suc k) =
      chain_longer t k (source t e) j c i (maker_chain n j k x y (ap (chain t k) h ∙ round n e j c i x y h k))

  -- ---- no offer competes with itself
  module _ (g : table_fine t limits ≡ good tt) where
    way_free : (n : ℕ) → ((j : ℕ) (o : Offer) → j < edges t → In o (offers_on t goes m n j) → Free t (makers o) (makers o))
        → {js : List ℕ} {w : Offer} → ((j : ℕ) → In j js → j < edges t) → Way t (offers_on t goes m n) js w → Free t (makers w) (makers w)
    unfolding makers
    way_free n h l (alone {j = j} {o = o} k) = h j o (l j (here refl)) k
    way_free n h l (beside {j = j} {o = o} {w = w} k r c) = λ a b x y s.
        ⊎_elim (λ p. ⊎_elim (λ q. h j o (l j (here refl)) k a b p q s) (λ q. across a b p q s) (in-append (makers o) y))
        (λ p. ⊎_elim (λ q. free-sym t (makers o) (makers w) across a b p q s) (λ q. way_free n h (λ i z. l i (later z)) r a b p q s) (in-append (makers o) y))
        (in-append (makers o) x)
      where
        -- what is taken together doesn't compete
        across : Free t (makers o) (makers w)
        across a b p q s =
            let u = makers-parts w q in
            not_competing t o u.0 (any_none (compete t o) c u.1) a b p u.2 s

    free_on : (n e : ℕ) {o : Offer} → e < edges t → In o (offers_on t goes m n e) → Free t (makers o) (makers o)
    unfolding makers last_edge
    free_on zero e l k = absurd (on_none t goes m e k)
    free_on (suc n) e l k = by (on_view t goes m n e k) (λ j o i u. free_on n j i u)
      where
        -- no maker from before was made at the same node
        before : (o : Offer) → is_control_node (kind t (source t e)) ≡ true
            → ((b : Offer) → In b (makers o) → (j : ℕ) × (p : Offer) × In j (into t (source t e)) × In p (offers_on t goes m n j) × In b (makers p))
            → (b : Offer) → In b (makers o) → made_at t b ≡ source t e → ⊥
        before o c f b y h =
            let r = f b y in
            never (chain t limits.chain_too_long (source t e)) (round n e r.0 c r.2 r.3 r.4 h limits.chain_too_long) (source_no_chain (table-good t limits g) e l)

        extended : (o : Offer) → ((b : Offer) → In b (makers o) → made_at t b ≡ source t e → ⊥) → Free t (makers o) (makers o) → Free t (over o e ∷ makers o) (over o e ∷ makers o)
        extended o f h a b x y s =
            ⊎_elim
            (λ p. ⊎_elim (λ q. p ∙ sym q) (λ q. absurd (f b q (sym (clash-at t a b s) ∙ ap (made_at t) p))) (in-cons y))
            (λ p. ⊎_elim (λ q. absurd (f a p (clash-at t a b s ∙ ap (made_at t) q))) (λ q. h a b p q s) (in-cons y))
            (in-cons x)

        by : {o : Offer} → Handed t m (offers_on t goes m n) e o → ((j : ℕ) (o : Offer) → j < edges t → In o (offers_on t goes m n j) → Free t (makers o) (makers o))
            → Free t (makers o) (makers o)
        by (starts c f) ih = λ a b x y s. in_one x ∙ sym (in_one y)
        by (extends {j = j} {o = o} c d i u) ih =
            extended o (before o c (λ b y. (j, o, i, u, y))) (ih j o (in_into t (source t e) i).0 u)
        by (joins {w = w} c d v) ih =
            extended w (before w c (λ b y. way_from t (offers_on t goes m n) makers with-makers v y)) (way_free n ih (λ j i. (in_into t (source t e) i).0) v)

    pub never_itself : (o : Offer) → elem o (offers t goes m) ≡ true → compete t o o ≡ false
    never_itself o k =
        let r = in_offers t goes m (elem_in (offers t goes m) k) in
        free-not t o o (free_on limits.longest_path r.0 r.1 r.2)
