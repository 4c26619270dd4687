-- The values that come to a node, end by end, and the values of all nodes one behind another. Assumes nothing.
use mathlib.Core.Path.{◌≡◌, refl, sym, ap, ◌∙◌}
use Prim.Native.Nat.{ℕ, suc, ◌+◌, ◌-◌, ◌*◌, ◌≤◌, ◌<◌}
use native.Mathlib.Omega.{arith}
use mathlib.Core.Bool.{Bool, true, false, ◌&&◌, cond}
use mathlib.Core.List.{List, [], ◌∷◌, ◌++◌, append-nil, append_assoc}
use lib.Dec.{eqb, ltb}
use lib.ListN.{length, take, drop, set, length-append, length-drop, length-set, take-append-drop}
use lib.Seq.{sets, sets-eq, length-sets, take-append-le, drop-append-le, drop_at, take_at, length-take-le, get_or-set_same, get_or-set_other}
use borrow.Author.Tests.{eqb-true, eqb-false, ltb-true, ltb-false, lt-ltb, le-ltb}
use Rattle.paper.specs.Lists.{at, from, has, below, gather, count}
use Rattle.paper.specs.Bytes.{four}
use Rattle.paper.specs.Limits.{limits}
use Rattle.paper.proofs.Lists.{below_more, below_split}
use Rattle.paper.proofs.Lengths.{gather_append, length-gather}
use Rattle.paper.proofs.Counts.{count_most}
use Rattle.wire.proofs.Laws.{sets_then}
use Rattle.marking.specs.Values.{ValuesNoted}
use Rattle.step_gain.specs.Gains.{brought, coming}

-- ---- one node
module _ (target row value : List ℕ) (w i : ℕ) where
  pub coming-none : coming target row value w 0 i ≡ []
  unfolding coming
  coming-none = refl

  pub coming-more : (k : ℕ) → coming target row value w (k + 1) i ≡ coming target row value w k i ++ brought target row value w i k
  unfolding coming
  coming-more k =
      rw (below_more k)
      (gather_append (brought target row value w i) (below k) (k ∷ [])
      ∙ ap (λ l. gather (brought target row value w i) (below k) ++ l) (append-nil (brought target row value w i k)))

  -- what comes from end k has room if all have
  pub coming-room : (n k : ℕ) → k < n → length (coming target row value w k i) + length (brought target row value w i k) ≤ length (coming target row value w n i)
  unfolding coming
  coming-room n k l =
      let f = brought target row value w i in
      let rest = from (suc k) (n - suc k) in
      let q : gather f (below n) ≡ gather f (below k) ++ (f k ++ gather f rest) = rw (below_split k n l) (gather_append f (below k) (k ∷ rest)) in
      omega (arith, ap length q, length-append (gather f (below k)) (f k ++ gather f rest), length-append (f k) (gather f rest))

  -- the values of the ends below k are stored from `place` on
  pub record Gaining (place : ℕ) (old new : List ℕ) (many k : ℕ) : Type 0 where
    pub number : many ≡ length (coming target row value w k i)
    pub bytes : new ≡ sets old place (gather four (coming target row value w k i))

  pub gaining_none : (place : ℕ) (old : List ℕ) → Gaining place old old 0 0
  gaining_none place old = record { number = rw coming-none; bytes = rw coming-none }

  pub gaining_more : (place : ℕ) (old new newer : List ℕ) (many k r : ℕ) → Gaining place old new many k → r ≡ length (brought target row value w i k)
      → newer ≡ sets new (place + 4 * many) (gather four (brought target row value w i k)) → Gaining place old newer (many + r) (k + 1)
  gaining_more place old new newer many k r g e q =
      let vs = coming target row value w k i in
      let ws = brought target row value w i k in
      record {
        number = rw (coming-more k) (omega (arith, g.number, length-append vs ws));
        bytes = q
            ∙ rw (g.bytes, coming-more k, gather_append four vs ws)
            (sets_then (gather four vs) (gather four ws) old place (place + 4 * many) (omega (arith, g.number, length-gather four 4 (λ x. refl) vs)));
      }

-- ---- all nodes
-- no more than so many ends of the word go to node i, and so many to the nodes below it
abbrev pub ending : List ℕ → ℕ → ℕ → ℕ → ℕ
ending target w n i = count (λ k. has w k && eqb (at target k) i) (below n)

abbrev pub before : List ℕ → ℕ → ℕ → ℕ → ℕ
before target w n i = count (λ k. has w k && ltb (at target k) i) (below n)

few-one : (h e : Bool) (v : ℕ) (vs : List ℕ) (m : ℕ) → length vs ≤ m → length (cond (h && e) (v ∷ []) [] ++ vs) ≤ cond (h && e) (suc m) m
few-one true true v vs m l = omega arith
few-one true false v vs m l = l
few-one false e v vs m l = l

coming-few : (target row value : List ℕ) (w i : ℕ) (ks : List ℕ)
    → length (gather (brought target row value w i) ks) ≤ count (λ k. has w k && eqb (at target k) i) ks
coming-few target row value w i [] = omega arith
coming-few target row value w i (k ∷ ks) =
    few-one (has w k) (eqb (at target k) i) (at value (at row k)) (gather (brought target row value w i) ks) (count (λ k. has w k && eqb (at target k) i) ks)
    (coming-few target row value w i ks)

pub coming_most : (target row value : List ℕ) (w n i : ℕ) → length (coming target row value w n i) ≤ ending target w n i
unfolding coming
coming_most target row value w n i = coming-few target row value w i (below n)

-- an end goes to node i, to a node below it, or to neither
one_side : (x i : ℕ) (e : Bool) → eqb x i ≡ e → (h : Bool) (a b d : ℕ) → a ≡ b + d
    → cond (h && ltb x (i + 1)) (suc a) a ≡ cond (h && ltb x i) (suc b) b + cond (h && e) (suc d) d
one_side x i e q false a b d p = p
one_side x i true q true a b d p = let z = eqb-true x i q in rw (z, lt-ltb i (i + 1) (omega arith), le-ltb i i (omega arith)) (omega arith)
one_side x i false q true a b d p = by (ltb x i) refl
  where
    by : (l : Bool) → ltb x i ≡ l → cond (ltb x (i + 1)) (suc a) a ≡ cond l (suc b) b + d
    by true l = rw (lt-ltb x (i + 1) (omega (arith, ltb-true x i l))) (omega arith)
    by false l = let z : x ≡ i → ⊥ = eqb-false x i q in rw (le-ltb x (i + 1) (omega (arith, ltb-false x i l))) p

sides : (target : List ℕ) (w i : ℕ) (ks : List ℕ)
    → count (λ k. has w k && ltb (at target k) (i + 1)) ks ≡ count (λ k. has w k && ltb (at target k) i) ks + count (λ k. has w k && eqb (at target k) i) ks
sides target w i [] = refl
sides target w i (k ∷ ks) =
    one_side (at target k) i (eqb (at target k) i) refl (has w k) (count (λ k. has w k && ltb (at target k) (i + 1)) ks)
    (count (λ k. has w k && ltb (at target k) i) ks) (count (λ k. has w k && eqb (at target k) i) ks)
    (sides target w i ks)

pub before_more : (target : List ℕ) (w n i : ℕ) → before target w n (i + 1) ≡ before target w n i + ending target w n i
before_more target w n i = sides target w i (below n)

pub before_most : (target : List ℕ) (w n i : ℕ) → before target w n i ≤ n
before_most target w n i = count_most (λ k. has w k && ltb (at target k) i) n

-- ---- values that stand in a slice
-- what is stored behind them leaves them
front_same : (xs ys : List ℕ) (p m : ℕ) → p + m ≤ length xs → take m (drop p (xs ++ ys)) ≡ take m (drop p xs)
front_same xs ys p m l = rw (drop-append-le p xs ys (omega arith)) (take-append-le m (drop p xs) ys (omega (arith, length-drop p xs)))

pub stored_behind : (b ws vs : List ℕ) (to p n : ℕ) → to + length ws ≤ length b → p + 4 * n ≤ to → ValuesNoted b vs p n → ValuesNoted (sets b to ws) vs p n
stored_behind b ws vs to p n l m v =
    let t : length (take to b) ≡ to = length-take-le to b (omega arith) in
    let old : take (4 * n) (drop p b) ≡ take (4 * n) (drop p (take to b)) =
    ap (λ (x : List ℕ). take (4 * n) (drop p x)) (sym (take-append-drop to b)) ∙ front_same (take to b) (drop to b) p (4 * n) (omega arith) in
    let new : take (4 * n) (drop p (sets b to ws)) ≡ take (4 * n) (drop p (take to b)) =
    ap (λ (x : List ℕ). take (4 * n) (drop p x)) (sets-eq ws b to l ∙ append_assoc (take to b) ws (drop (to + length ws) b))
    ∙ front_same (take to b) (ws ++ drop (to + length ws) b) p (4 * n) (omega arith) in
    record { many = v.many; stand = v.stand ∙ old ∙ sym new; inside = omega (arith, length-sets b to ws) }

-- and they themselves are noted where they are stored
pub stored_here : (b vs : List ℕ) (to n : ℕ) → n ≡ length vs → to + 4 * n ≤ length b → ValuesNoted (sets b to (gather four vs)) vs to n
stored_here b vs to n e l =
    let ws = gather four vs in
    let len : length ws ≡ 4 * n = rw e (length-gather four 4 (λ x. refl) vs) in
    let t : length (take to b) ≡ to = length-take-le to b (omega arith) in
    let q : drop to (sets b to ws) ≡ ws ++ drop (to + length ws) b =
    ap (drop to) (sets-eq ws b to (omega arith) ∙ append_assoc (take to b) ws (drop (to + length ws) b))
    ∙ drop_at (take to b) (ws ++ drop (to + length ws) b) to t in
    record { many = e; stand = sym (rw q (take_at ws (drop (to + length ws) b) (4 * n) len)); inside = omega (arith, length-sets b to ws) }

module _ (target row value : List ℕ) (w n : ℕ) where
  -- the values of the nodes below i are stored, and the next place is `to`
  pub record Laid (extra₀ place₀ more₀ extra place more : List ℕ) (to i : ℕ) : Type 0 where
    pub room : to ≤ 4 * before target w n i
    pub stand : (k : ℕ) → k < i → ValuesNoted extra (coming target row value w n k) (at place k) (at more k) × (at place k + 4 * at more k ≤ to)
    pub extra_long : length extra ≡ length extra₀
    pub place-long : length place ≡ length place₀
    pub more-long : length more ≡ length more₀

  pub laid_none : (extra place more : List ℕ) → Laid extra place more extra place more 0 0
  laid_none extra place more = record { room = omega arith; stand = λ k l. absurd (omega arith); extra_long = refl; place-long = refl; more-long = refl }

  module _ {extra₀ place₀ more₀ extra place more : List ℕ} {to i : ℕ} (s : Laid extra₀ place₀ more₀ extra place more to i) where
    -- there is room for node i's values
    pub laid_room : n ≤ limits.most_ends → 4 * limits.most_ends ≤ length extra₀ → to + 4 * length (coming target row value w n i) ≤ length extra
    laid_room few l =
        omega (arith, s.room, s.extra_long, coming_most target row value w n i, before_more target w n i, before_most target w n (i + 1))

    pub laid_more : (newer : List ℕ) (many : ℕ) → n ≤ limits.most_ends → 4 * limits.most_ends ≤ length extra₀ → i < length place → i < length more
        → many ≡ length (coming target row value w n i) → newer ≡ sets extra to (gather four (coming target row value w n i))
        → Laid extra₀ place₀ more₀ newer (set place i to) (set more i many) (to + 4 * many) (i + 1)
    laid_more newer many few l lp lm e q =
        let vs = coming target row value w n i in
        let len : length (gather four vs) ≡ 4 * many = rw e (length-gather four 4 (λ x. refl) vs) in
        let h : to + 4 * length vs ≤ length extra = laid_room few l in
        record {
          room = omega (arith, s.room, coming_most target row value w n i, before_more target w n i);
          stand = λ k m. rw q (by k (eqb k i) refl m h len);
          extra_long = ap length q ∙ length-sets extra to (gather four vs) ∙ s.extra_long;
          place-long = length-set place i to ∙ s.place-long;
          more-long = length-set more i many ∙ s.more-long;
        }
      where
        by : (k : ℕ) (b : Bool) → eqb k i ≡ b → k < i + 1 → to + 4 * length (coming target row value w n i) ≤ length extra
            → length (gather four (coming target row value w n i)) ≡ 4 * many
            → ValuesNoted (sets extra to (gather four (coming target row value w n i))) (coming target row value w n k) (at (set place i to) k)
            (at (set more i many) k)
            × (at (set place i to) k + 4 * at (set more i many) k ≤ to + 4 * many)
        by k true z m h len =
            rw (eqb-true k i z, get_or-set_same place i to 0 lp, get_or-set_same more i many 0 lm)
            (stored_here extra (coming target row value w n i) to many e (omega arith), omega arith)
        by k false z m h len =
            let d : k ≡ i → ⊥ = eqb-false k i z in
            let r = s.stand k (omega arith) in
            rw (get_or-set_other place i k to 0 d, get_or-set_other more i k many 0 d) (
              stored_behind extra (gather four (coming target row value w n i)) (coming target row value w n k) to (at place k) (at more k) (omega arith)
                  r.1 r.0,
              omega (arith, r.1),
            )
