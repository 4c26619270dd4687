-- "An offer has a value (..) and a set of paths.": the paths of an offer are a set, and with its last edge they determine it. Assumes nothing.
use mathlib.Core.Path.{◌≡◌, refl, sym, ap, ap₂, ◌∙◌, subst}
use Prim.Native.Nat.{ℕ, zero, suc}
use mathlib.Core.Bool.{Bool, true}
use mathlib.Core.Logic.{⊎_elim}
use mathlib.Core.List.{List, [], ◌∷◌, ◌++◌}
use mathlib.Core.Option.{Option}
use Rattle.paper.specs.Limits.{limits}
use Rattle.paper.specs.Table.{source, into}
use Rattle.paper.specs.Marking.{Marking}
use Rattle.paper.specs.Offers.{Offer, over, with, elem, last_edge, paths, offers_on, offers}
use Rattle.paper.proofs.Bools.{never}
use Rattle.paper.proofs.Members.{In, here, in-none, in_one, in-equal, in-append, append_left, append_right, in_each, each_in, Distinct, distinct_append, distinct-each, snoc_one}
use Rattle.paper.proofs.Origins.{Handed, starts, extends, joins, Way, alone, beside, way_from, on_none, on_view, in_offers, distinct-into}
use Rattle.paper.proofs.Sameness.{elem_in, on-last}

-- ---- the paths of an offer extended over an edge
module _ (o : Offer) (e : ℕ) where
  pub in_over : {q : List ℕ} → In q (paths (over o e)) → (r : List ℕ) × In r (paths o) × (q ≡ r ++ (e ∷ []))
  unfolding paths
  in_over k = in_each (λ p. p ++ (e ∷ [])) (paths o) k

  pub over_in : {q : List ℕ} → In q (paths o) → In (q ++ (e ∷ [])) (paths (over o e))
  unfolding paths
  over_in k = each_in (λ p. p ++ (e ∷ [])) k

  pub over_back : {q : List ℕ} → In (q ++ (e ∷ [])) (paths (over o e)) → In q (paths o)
  over_back {q} k = let r = in_over k in in-equal (snoc_one q r.0 r.2).0 r.1

-- every path of the first is one of the second
abbrev pub Within : Offer → Offer → Type 0
Within o p = (q : List ℕ) → In q (paths o) → In q (paths p)

pub with-paths : (o p : Offer) → paths (with o p) ≡ paths o ++ paths p
unfolding paths
with-paths o p = refl

-- ---- at a join, where the offers on each edge are as they should be
way_some : (t : List ℕ) (on : ℕ → List Offer) → ((j : ℕ) (o : Offer) → In o (on j) → (q : List ℕ) × In q (paths o))
    → {js : List ℕ} {w : Offer} → Way t on js w → (q : List ℕ) × In q (paths w)
unfolding paths
way_some t on h (alone {j = j} {o = o} k) = h j o k
way_some t on h (beside {j = j} {o = o} {w = w} k r c) = let s = h j o k in (s.0, append_left (paths w) s.1)

module _ (t : List ℕ) (on : ℕ → List Offer) (last_of : (j : ℕ) (o : Offer) (q : List ℕ) → In o (on j) → In q (paths o) → (r : List ℕ) × (q ≡ r ++ (j ∷ []))) where
  -- a path of an offer on edge j is no path of a way through other edges
  apart : {j : ℕ} {js : List ℕ} {o w : Offer} {q : List ℕ} → (In j js → ⊥) → In o (on j) → Way t on js w → In q (paths o) → In q (paths w) → ⊥
  apart {j} {o = o} {q = q} d k y a b =
      let s = way_from t on paths with-paths y b in
      let u = last_of j o q k a in
      let v = last_of s.0 s.1 q s.3 s.4 in
      d (in-equal (snoc_one u.0 v.0 (sym u.1 ∙ v.1)).1 s.2)

  way_distinct : ((j : ℕ) (o : Offer) → In o (on j) → Distinct (paths o)) → (js : List ℕ) {w : Offer} → Distinct js → Way t on js w → Distinct (paths w)
  unfolding paths
  way_distinct h [] d r = elim r [ ]
  way_distinct h (j ∷ []) d (alone {o = o} k) = h j o k
  way_distinct h (j ∷ (i ∷ js)) d (beside {o = o} {w = w} k r c) =
      distinct_append (paths o) (paths w) (h j o k) (way_distinct h (i ∷ js) d.1 r) (λ q a b. apart d.0 k r a b)

  way_determined : ((j : ℕ) (o p : Offer) → In o (on j) → In p (on j) → Within o p → o ≡ p)
      → (js : List ℕ) {v w : Offer} → Distinct js → Way t on js v → Way t on js w → Within v w → v ≡ w
  unfolding paths
  way_determined h [] d r _ i = elim r [ ]
  way_determined h (j ∷ []) d (alone {o = o} k) (alone {o = p} l) i = h j o p k l i
  way_determined h (j ∷ (n ∷ js)) d (beside {o = o} {w = v} k r c) (beside {o = p} {w = w} l s b) i =
      ap₂ with
      (h j o p k l (λ q a. ⊎_elim (λ z. z) (λ z. absurd (apart d.0 k s a z)) (in-append (paths p) (i q (append_left (paths v) a)))))
      (way_determined h (n ∷ js) d.1 r s (λ q a. ⊎_elim (λ z. absurd (apart d.0 l r z a)) (λ z. z) (in-append (paths p) (i q (append_right (paths o) a)))))

-- ---- the offers on an edge
module _ (t : List ℕ) (goes : ℕ → Option ℕ → Bool) (m : Marking) where
  -- an offer has a path
  pub path-some : (n e : ℕ) {o : Offer} → In o (offers_on t goes m n e) → (q : List ℕ) × In q (paths o)
  unfolding paths
  path-some zero e k = absurd (on_none t goes m e k)
  path-some (suc n) e k = by (on_view t goes m n e k) (λ j o i. path-some n j i)
    where
      by : {o : Offer} → Handed t m (offers_on t goes m n) e o → ((j : ℕ) (o : Offer) → In o (offers_on t goes m n j) → (q : List ℕ) × In q (paths o))
          → (q : List ℕ) × In q (paths o)
      by (starts c f) ih = (e ∷ [], here refl)
      by (extends {j = j} {o = o} c d i k) ih = let r = ih j o k in (r.0 ++ (e ∷ []), over_in o e r.1)
      by (joins {w = w} c d y) ih = let r = way_some t (offers_on t goes m n) ih y in (r.0 ++ (e ∷ []), over_in w e r.1)

  -- its paths end with its edge
  pub path-last : (n e : ℕ) {o : Offer} {q : List ℕ} → In o (offers_on t goes m n e) → In q (paths o) → (r : List ℕ) × (q ≡ r ++ (e ∷ []))
  unfolding paths
  path-last zero e k i = absurd (on_none t goes m e k)
  path-last (suc n) e {q = q} k i = by (on_view t goes m n e k) i
    where
      by : {o : Offer} → Handed t m (offers_on t goes m n) e o → In q (paths o) → (r : List ℕ) × (q ≡ r ++ (e ∷ []))
      by (starts c f) i = ([], in_one i)
      by (extends {o = o} c d j k) i = let r = in_over o e i in (r.0, r.2)
      by (joins {w = w} c d y) i = let r = in_over w e i in (r.0, r.2)

  -- no path stands twice
  pub paths-distinct : (n e : ℕ) {o : Offer} → In o (offers_on t goes m n e) → Distinct (paths o)
  unfolding paths
  paths-distinct zero e k = absurd (on_none t goes m e k)
  paths-distinct (suc n) e k = by (on_view t goes m n e k) (λ j o i. paths-distinct n j i)
    where
      longer : (o : Offer) → Distinct (paths o) → Distinct (paths (over o e))
      longer o d = distinct-each (λ p. p ++ (e ∷ [])) (λ p q h. (snoc_one p q h).0) (paths o) d

      by : {o : Offer} → Handed t m (offers_on t goes m n) e o → ((j : ℕ) (o : Offer) → In o (offers_on t goes m n j) → Distinct (paths o)) → Distinct (paths o)
      by (starts c f) ih = (λ k. in-none k, tt)
      by (extends {j = j} {o = o} c d i k) ih = longer o (ih j o k)
      by (joins {w = w} c d y) ih =
          longer w (way_distinct t (offers_on t goes m n) (λ j o q. path-last n j) ih (into t (source t e)) (distinct-into t (source t e)) y)

  -- the paths of an offer are in no other offer on its edge
  pub determined_on : (n e : ℕ) {o p : Offer} → In o (offers_on t goes m n e) → In p (offers_on t goes m n e) → Within o p → o ≡ p
  unfolding paths
  determined_on zero e k l i = absurd (on_none t goes m e k)
  determined_on (suc n) e k l i = by (on_view t goes m n e k) (on_view t goes m n e l) i (λ j o p. determined_on n j)
    where
      back : (o p : Offer) → Within (over o e) (over p e) → Within o p
      back o p i q a = over_back p e (i (q ++ (e ∷ [])) (over_in o e a))

      -- the edge before, from a path of both
      before : {i j : ℕ} {o p : Offer} → In o (offers_on t goes m n i) → In p (offers_on t goes m n j) → Within o p → i ≡ j
      before {i} {j} k l w =
          let s = path-some n i k in
          let u = path-last n i k s.1 in
          let v = path-last n j l (w s.0 s.1) in
          (snoc_one u.0 v.0 (sym u.1 ∙ v.1)).1

      by : {o p : Offer} → Handed t m (offers_on t goes m n) e o → Handed t m (offers_on t goes m n) e p → Within o p
          → ((j : ℕ) (o p : Offer) → In o (offers_on t goes m n j) → In p (offers_on t goes m n j) → Within o p → o ≡ p) → o ≡ p
      by (starts c f) (starts d g) i ih = cc
      by (starts c f) (extends d x j l) i ih = never _ d c
      by (starts c f) (joins d x y) i ih = never _ d c
      by (extends c x j k) (starts d g) i ih = never _ c d
      by (extends {j = a} {o = o} c x j k) (extends {j = b} {o = p} d z u l) i ih =
          let w = back o p i in
          let e' = before k l w in
          ap (λ r. over r e) (ih b o p (rw e' at k) l w)
      by (extends c x j k) (joins d z y) i ih = never _ z x
      by (joins c x y) (starts d g) i ih = never _ c d
      by (joins c x y) (extends d z j l) i ih = never _ x z
      by (joins {w = v} c x y) (joins {w = w} d z u) i ih =
          ap (λ r. over r e)
          (way_determined t (offers_on t goes m n) (λ j o q. path-last n j) ih (into t (source t e)) (distinct-into t (source t e)) y u (back v w i))

  -- ---- all offers of the table
  pub paths-once : (o : Offer) → elem o (offers t goes m) ≡ true → Distinct (paths o)
  paths-once o k = let r = in_offers t goes m (elem_in (offers t goes m) k) in paths-distinct limits.longest_path r.0 r.2

  -- an offer is determined by its last edge and its set of paths; that its paths are among the other's is enough
  pub determined : (o p : Offer) → elem o (offers t goes m) ≡ true → elem p (offers t goes m) ≡ true → last_edge o ≡ last_edge p → Within o p → o ≡ p
  determined o p k l s w =
      let a = in_offers t goes m (elem_in (offers t goes m) k) in
      let b = in_offers t goes m (elem_in (offers t goes m) l) in
      let q : a.0 ≡ b.0 = sym (on-last t goes m limits.longest_path a.0 a.2) ∙ s ∙ on-last t goes m limits.longest_path b.0 b.2 in
      determined_on limits.longest_path b.0 (subst (λ (e : ℕ). In o (offers_on t goes m limits.longest_path e)) q a.2) b.2 w

  pub determined_set : (o p : Offer) → elem o (offers t goes m) ≡ true → elem p (offers t goes m) ≡ true → last_edge o ≡ last_edge p → Within o p → Within p o → o ≡ p
  determined_set o p k l s w v = determined o p k l s w
