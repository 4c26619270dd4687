-- The definitions as they were before wish 2 ("one round token"), but for the order of ends, kept here alone, and what of them stands: boards and sheets are theirs on every call, so 8 is given as before
-- (`board_as_before`, `sheet_as_before`); what was acceptable is (`still-acceptable`); step answers what it answered unless that was a 10 (`step_as_before`); pick's answer is the
-- same or comes before it, and 13 is given only where it was (`pick_no_later`, `refused-before`). Assumes nothing.
use mathlib.Core.Path.{◌≡◌, refl, sym, ap, ◌∙◌, subst}
use Prim.Native.Nat.{ℕ, zero, suc, ◌^◌, ◌≤◌, ◌<◌}
use native.Mathlib.Omega.{arith}
use mathlib.Core.Bool.{Bool, true, false, not, ◌&&◌, ◌||◌, cond}
use mathlib.Core.Logic.{◌⊎◌, inl, inr, ⊎_elim}
use mathlib.Core.List.{List, [], ◌∷◌}
use mathlib.Core.Option.{Option, none, some}
use lib.Dec.{eqb, ltb}
use borrow.Author.Tests.{eqb-true, leb-true}
use Rattle.paper.specs.Lists.{below, all, any, keep, find, count, each, gather}
use Rattle.paper.specs.Answers.{Answer, refused, good, ◌>>=◌, need, known, judged_by, is_good}
use Rattle.paper.specs.Limits.{limits}
use Rattle.paper.specs.Table.{edges, kind, source, into, is_join, is_object, is_control_node, table_fine}
use Rattle.paper.specs.Marking.{Marking, encode, marking}
use Rattle.paper.specs.Offers.{Offer, with, over, value, is_some, parts, same, makers, origins, share, one_round, made_at, of_one_stock, of_one_decision, of_one_join, clash, compete, firsts, ways, handed, Terms, goes_over, offers_on, offers, ends, sizes_fine, belongs}
use Rattle.paper.specs.Choices.{Board, board_of, board, how_many, end, taken, taken_ends, rule1, rule2, rule3, rules, acceptable, next, Before, FirstOf}
use Rattle.paper.specs.Operations.{named, wanted, PickIf, Pick, rising, choice_of, sheet_bytes, sheet, step_of, step}
use Rattle.paper.proofs.Bools.{never, and-true, and_both, false_if, iff}
use Rattle.paper.proofs.Members.{In, here, later, in_one, in_below, any_in, in_any, find_none, none_found, any-count, keep-alike, any-alike, each-alike, gather-alike}
use Rattle.paper.proofs.Lengths.{gather-each}
use Rattle.paper.proofs.Origins.{way_of, way_from, in_into}
use Rattle.paper.proofs.Values.{value_on, with-parts, handed-parts, one_object}
use Rattle.paper.proofs.OneRound.{round_valued}
use Rattle.paper.proofs.OtherBoards.{sizes_fine_by, board_of_by, board_by}

-- ---- the definitions before
module _ (t : List ℕ) where
  of_one_join_before : Offer → Offer → Bool
  of_one_join_before o p = eqb (made_at t o) (made_at t p) && is_join (kind t (made_at t o)) && share (origins o) (origins p)

  clash_before : Offer → Offer → Bool
  clash_before o p = of_one_stock t o p || of_one_decision t o p || of_one_join_before o p

  compete_before : Offer → Offer → Bool
  compete_before o p = any (λ a. any (λ b. not (same a b) && clash_before a b) (makers p)) (makers o)

  ways_before : List (List Offer) → List Offer
  ways_before [] = []
  ways_before (os ∷ []) = os
  ways_before (os ∷ (ps ∷ pss)) = gather (λ o. each (with o) (keep (λ p. not (any (compete_before o) (parts p))) (ways_before (ps ∷ pss)))) os

  handed_before : Marking → (ℕ → List Offer) → ℕ → List Offer
  handed_before m on e =
      cond (is_control_node (kind t (source t e)))
      (each (λ o. over o e)
      (cond (is_join (kind t (source t e))) (ways_before (each on (into t (source t e)))) (gather on (into t (source t e)))))
      (firsts t m e)

  offers_on_before : (ℕ → Option ℕ → Bool) → Marking → ℕ → ℕ → List Offer
  offers_on_before goes m zero e = []
  offers_on_before goes m (suc n) e = keep (λ o. goes e (value o)) (handed_before m (offers_on_before goes m n) e)

  pub offers_before : (ℕ → Option ℕ → Bool) → Marking → List Offer
  offers_before goes m = gather (offers_on_before goes m limits.longest_path) (below (edges t))

pub board_before : List ℕ → List ℕ → Terms → Answer Board
board_before = board_by offers_before ends

pub sheet_before : List ℕ → List ℕ → Terms → Answer (List ℕ)
sheet_before t b w = do
  d ← board_before t b w
  good (sheet_bytes d.all_ends)

rule1_before : Board → ℕ → Option ℕ
rule1_before d c = find (λ k. any (λ j. not (eqb j k) && compete_before d.table (end d k) (end d j)) (taken d c)) (taken d c)

abbrev rules_before : Board → List (ℕ × (ℕ → Option ℕ))
rules_before d = (10, rule1_before d) ∷ (11, rule2 d) ∷ (12, rule3 d) ∷ []

pub acceptable_before : Board → ℕ → Bool
acceptable_before d c = is_good (judged_by (rules_before d) c)

wanted_before : Board → ℕ → ℕ → Bool
wanted_before d n c = acceptable_before d c && (not (named n) || any (belongs d.table n) (taken_ends d c))

-- what pick might answer on a board, as `PickOn` has it
abbrev PickOnBefore : Board → ℕ → Answer (List ℕ) → Type 0
PickOnBefore d n (refused k p) = (k ≡ 13) × (p ≡ n) × (named n ≡ true) × ((x : ℕ) → x < 2 ^ how_many d → wanted_before d n x ≡ false)
PickOnBefore d n (good ks) = (c : ℕ) × FirstOf (wanted_before d n) (how_many d) c × (ks ≡ taken d c)

abbrev PickIfBefore : Answer Board → ℕ → Answer (List ℕ) → Type 0
PickIfBefore (refused k p) n a = a ≡ refused k p
PickIfBefore (good d) n a = PickOnBefore d n a

pub PickBefore : List ℕ → List ℕ → Terms → ℕ → Answer (List ℕ) → Type 0
PickBefore t b w n a = PickIfBefore (board_before t b w) n a

step_of_before : Board → List ℕ → Answer Marking
step_of_before d ks = do
  _ ← need 9 (rising ks && all (λ k. ltb k (how_many d)) ks)
  _ ← judged_by (rules_before d) (choice_of ks)
  good (next d (choice_of ks))

pub step_before : List ℕ → List ℕ → Terms → List ℕ → Answer (List ℕ)
step_before t b w ks = do
  d ← board_before t b w
  m ← step_of_before d ks
  good (encode t m)

-- ---- competing
module _ (t : List ℕ) where
  -- what clashes did; what clashed and doesn't is of one round
  clashed : (o p : Offer) → clash t o p ≡ true → clash_before t o p ≡ true
  unfolding clash of_one_join clash_before of_one_join_before
  clashed o p h = by (of_one_stock t o p) (of_one_decision t o p) (eqb (made_at t o) (made_at t p)) (is_join (kind t (made_at t o))) (share (origins o) (origins p)) (not (one_round o p)) h
    where
      by : (s d e j h r : Bool) → s || d || e && j && h && r ≡ true → s || d || e && j && h ≡ true
      by true d e j h r q = refl
      by false true e j h r q = refl
      by false false true true true r q = refl
      by false false true true false r q = q
      by false false true false h r q = q
      by false false false j h r q = q

  freed : (o p : Offer) → clash_before t o p ≡ true → (clash t o p ≡ true) ⊎ ((made_at t o ≡ made_at t p) × (is_join (kind t (made_at t o)) ≡ true) × (one_round o p ≡ true))
  unfolding clash of_one_join clash_before of_one_join_before
  freed o p h =
      ⊎_elim (λ q. inl q) (λ q. inr (eqb-true _ _ q.0, q.1, q.2))
      (by (of_one_stock t o p) (of_one_decision t o p) (eqb (made_at t o) (made_at t p)) (is_join (kind t (made_at t o))) (share (origins o) (origins p)) (one_round o p) h)
    where
      by : (s d e j h r : Bool) → s || d || e && j && h ≡ true → (s || d || e && j && h && not r ≡ true) ⊎ ((e ≡ true) × (j ≡ true) × (r ≡ true))
      by true d e j h r q = inl refl
      by false true e j h r q = inl refl
      by false false true true true true q = inr (refl, refl, refl)
      by false false true true true false q = inl refl
      by false false true true false r q = inl q
      by false false true false h r q = inl q
      by false false false j h r q = inl q

  competed : (o p : Offer) → compete t o p ≡ true → compete_before t o p ≡ true
  unfolding compete compete_before
  competed o p h =
      let r = any_in (λ a. any (λ b. not (same a b) && clash t a b) (makers p)) (makers o) h in
      let s = any_in (λ b. not (same r.0 b) && clash t r.0 b) (makers p) r.2 in
      let q = and-true (not (same r.0 s.0)) _ s.2 in
      in_any (λ a. any (λ b. not (same a b) && clash_before t a b) (makers p)) r.1
      (in_any (λ b. not (same r.0 b) && clash_before t r.0 b) s.1 (and_both _ _ q.0 (clashed r.0 s.0 q.1)))

-- ---- offers
module _ (t : List ℕ) (goes : ℕ → Option ℕ → Bool) (m : Marking) (g : table_fine t limits ≡ good tt) where
  -- where not both have a value, competing is as it was
  compete-same : (n e f : ℕ) {o p : Offer} → e < edges t → f < edges t → In o (offers_on t goes m n e) → In p (offers_on t goes m n f) → is_some (value o) && is_some (value p) ≡ false
      → compete t o p ≡ compete_before t o p
  unfolding compete compete_before
  compete-same n e f {o} {p} le lf x y h = iff _ _ (competed t o p) (λ c.
      let r = any_in (λ a. any (λ b. not (same a b) && clash_before t a b) (makers p)) (makers o) c in
      let s = any_in (λ b. not (same r.0 b) && clash_before t r.0 b) (makers p) r.2 in
      let q = and-true (not (same r.0 s.0)) _ s.2 in
      ⊎_elim
      (λ k. in_any (λ a. any (λ b. not (same a b) && clash t a b) (makers p)) r.1
      (in_any (λ b. not (same r.0 b) && clash t r.0 b) s.1 (and_both _ _ q.0 k)))
      (λ k. let v = round_valued t goes m g n e n f le lf x y r.1 s.1 k.0 k.1 k.2 in never (is_some (value o) && is_some (value p)) (and_both _ _ v.0 v.1) h)
      (freed t r.0 s.0 q.1))

  -- on a join's edges, of which one at most has values
  ways-same : (n : ℕ) (js : List ℕ) → ((j : ℕ) → In j js → j < edges t) → count (is_object t) js ≤ 1
      → ways t (each (offers_on t goes m n) js) ≡ ways_before t (each (offers_on t goes m n) js)
  unfolding ways ways_before
  ways-same n [] l one = refl
  ways-same n (j ∷ []) l one = refl
  ways-same n (j ∷ (k ∷ js)) l one = by (ways-same n (k ∷ js) (λ i d. l i (later d)) (fewer (is_object t j) one))
    where
      fewer : (b : Bool) → cond b (suc (count (is_object t) (k ∷ js))) (count (is_object t) (k ∷ js)) ≤ 1 → count (is_object t) (k ∷ js) ≤ 1
      fewer true h = omega arith
      fewer false h = h

      -- not both j and a later edge have values
      apart : (i : ℕ) → In i (k ∷ js) → is_object t j && is_object t i ≡ false
      apart i d = false_if _ (λ h.
          let r = and-true (is_object t j) (is_object t i) h in
          let c : 1 ≤ count (is_object t) (k ∷ js) = leb-true 1 _ (sym (any-count (is_object t) (k ∷ js)) ∙ in_any (is_object t) d r.1) in
          let two : cond true (suc (count (is_object t) (k ∷ js))) (count (is_object t) (k ∷ js)) ≤ 1 = rw r.0 at one in
          omega arith)

      met : (o : Offer) → In o (offers_on t goes m n j) → (w : Offer) → In w (ways t (each (offers_on t goes m n) (k ∷ js))) → any (compete t o) (parts w) ≡ any (compete_before t o) (parts w)
      met o x w y = any-alike (compete t o) (compete_before t o) (parts w) (λ p z.
          let r = way_from t (offers_on t goes m n) parts with-parts (way_of t (offers_on t goes m n) (k ∷ js) y) z in
          let at_p = in_one (rw (handed-parts t goes m g n r.0 r.3) at r.4) in
          let u = subst (λ q. In q (offers_on t goes m n r.0)) (sym at_p) r.3 in
          compete-same n j r.0 (l j (here refl)) (l r.0 (later r.2)) x u
          (rw (value_on t goes m g n j (l j (here refl)) x, value_on t goes m g n r.0 (l r.0 (later r.2)) u) (apart r.0 r.2)))

      by : ways t (each (offers_on t goes m n) (k ∷ js)) ≡ ways_before t (each (offers_on t goes m n) (k ∷ js))
          → gather (λ o. each (with o) (keep (λ p. not (any (compete t o) (parts p))) (ways t (each (offers_on t goes m n) (k ∷ js))))) (offers_on t goes m n j)
          ≡ gather (λ o. each (with o) (keep (λ p. not (any (compete_before t o) (parts p))) (ways_before t (each (offers_on t goes m n) (k ∷ js))))) (offers_on t goes m n j)
      by ih = gather-alike
          (λ o. each (with o) (keep (λ p. not (any (compete t o) (parts p))) (ways t (each (offers_on t goes m n) (k ∷ js)))))
          (λ o. each (with o) (keep (λ p. not (any (compete_before t o) (parts p))) (ways_before t (each (offers_on t goes m n) (k ∷ js))))) (offers_on t goes m n j)
          (λ o x. ap (each (with o))
          (keep-alike (λ p. not (any (compete t o) (parts p))) (λ p. not (any (compete_before t o) (parts p))) (ways t (each (offers_on t goes m n) (k ∷ js))) (λ w y. ap not (met o x w y))
          ∙ ap (keep (λ p. not (any (compete_before t o) (parts p)))) ih))

  -- what is handed on depends only on the offers on the incoming edges
  handed-alike : (e : ℕ) (f h : ℕ → List Offer) → each f (into t (source t e)) ≡ each h (into t (source t e)) → handed_before t m f e ≡ handed_before t m h e
  unfolding handed_before
  handed-alike e f h q = rw (← gather-each (λ x. x) f (into t (source t e)), ← gather-each (λ x. x) h (into t (source t e)), q)

  handed-same : (n e : ℕ) → e < edges t → handed t m (offers_on t goes m n) e ≡ handed_before t m (offers_on t goes m n) e
  unfolding handed handed_before
  handed-same n e l = by (is_join (kind t (source t e))) refl
    where
      by : (b : Bool) → is_join (kind t (source t e)) ≡ b
          → cond (is_control_node (kind t (source t e))) (each (λ o. over o e) (cond b (ways t (each (offers_on t goes m n) (into t (source t e)))) (gather (offers_on t goes m n) (into t (source t e))))) (firsts t m e)
          ≡ cond (is_control_node (kind t (source t e))) (each (λ o. over o e) (cond b (ways_before t (each (offers_on t goes m n) (into t (source t e)))) (gather (offers_on t goes m n) (into t (source t e))))) (firsts t m e)
      by true d = rw (ways-same n (into t (source t e)) (λ j i. (in_into t (source t e) i).0) (one_object t goes m g e l d))
      by false d = refl

  on_same : (n e : ℕ) → e < edges t → offers_on t goes m n e ≡ offers_on_before t goes m n e
  unfolding offers_on offers_on_before
  on_same zero e l = refl
  on_same (suc n) e l =
      ap (keep (λ o. goes e (value o)))
      (handed-same n e l ∙ handed-alike e (offers_on t goes m n) (offers_on_before t goes m n)
      (each-alike (offers_on t goes m n) (offers_on_before t goes m n) (into t (source t e)) (λ j i. on_same n j (in_into t (source t e) i).0)))

  pub offers_as_before : offers t goes m ≡ offers_before t goes m
  unfolding offers offers_before
  offers_as_before =
      gather-alike (offers_on t goes m limits.longest_path) (offers_on_before t goes m limits.longest_path) (below (edges t))
      (λ e k. on_same limits.longest_path e (in_below (edges t) k))

-- ---- boards and sheets
module _ (t b : List ℕ) (w : Terms) where
  board-of-before : table_fine t limits ≡ good tt → (m : Marking) → board_of t m w ≡ board_of_by offers_before ends t m w
  unfolding board_of board_of_by sizes_fine sizes_fine_by
  board-of-before g m = rw (offers_as_before t (goes_over w) m g)

  pub board_as_before : board t b w ≡ board_before t b w
  unfolding board board_before board_by
  board_as_before = by (table_fine t limits) refl (marking t b)
    where
      by : (a : Answer (Unit {0})) → table_fine t limits ≡ a → (o : Option Marking)
          → a >>= (λ u. known 5 o >>= (λ m. board_of t m w)) ≡ a >>= (λ u. known 5 o >>= (λ m. board_of_by offers_before ends t m w))
      by (refused n p) e o = refl
      by (good u) e none = refl
      by (good u) e (some m) = board-of-before e m

  pub sheet_as_before : sheet t b w ≡ sheet_before t b w
  unfolding sheet sheet_before
  sheet_as_before = rw board_as_before

-- ---- choices
module _ (d : Board) where
  no_rule1 : (c : ℕ) → rule1_before d c ≡ none → rule1 d c ≡ none
  unfolding rule1 rule1_before
  no_rule1 c h = find_none (λ k. any (λ j. not (eqb j k) && compete d.table (end d k) (end d j)) (taken d c)) (taken d c) (λ k x.
      false_if _ (λ q.
      let r = any_in (λ j. not (eqb j k) && compete d.table (end d k) (end d j)) (taken d c) q in
      let s = and-true (not (eqb r.0 k)) _ r.2 in
      never _ (in_any (λ j. not (eqb j k) && compete_before d.table (end d k) (end d j)) r.1 (and_both _ _ s.0 (competed d.table (end d k) (end d r.0) s.1)))
      (none_found (λ k. any (λ j. not (eqb j k) && compete_before d.table (end d k) (end d j)) (taken d c)) (taken d c) h x)))

  -- judged as before, or refused by rule 1 before
  judged : (c : ℕ) → (judged_by (rules d) c ≡ judged_by (rules_before d) c) ⊎ ((p : ℕ) × (judged_by (rules_before d) c ≡ refused 10 p))
  judged c = by (rule1_before d c) refl
    where
      by : (o : Option ℕ) → rule1_before d c ≡ o → (judged_by (rules d) c ≡ judged_by (rules_before d) c) ⊎ ((p : ℕ) × (judged_by (rules_before d) c ≡ refused 10 p))
      by none e = inl (rw (e, no_rule1 c e))
      by (some p) e = inr (p, rw e)

  pub still-acceptable : (c : ℕ) → acceptable_before d c ≡ true → acceptable d c ≡ true
  unfolding acceptable acceptable_before
  still-acceptable c h = ⊎_elim (λ e. ap is_good e ∙ h) (λ q. never false (ap is_good (sym q.1) ∙ h) refl) (judged c)

  still-wanted : (n c : ℕ) → wanted_before d n c ≡ true → wanted d n c ≡ true
  unfolding wanted wanted_before
  still-wanted n c h = let r = and-true (acceptable_before d c) _ h in and_both _ _ (still-acceptable c r.0) r.1

  step-of : (ks : List ℕ) → (step_of d ks ≡ step_of_before d ks) ⊎ ((p : ℕ) × (step_of_before d ks ≡ refused 10 p))
  unfolding step_of step_of_before
  step-of ks = by (rising ks && all (λ k. ltb k (how_many d)) ks) refl
    where
      by : (r : Bool) → rising ks && all (λ k. ltb k (how_many d)) ks ≡ r
          → (need 9 r >>= (λ u. judged_by (rules d) (choice_of ks) >>= (λ v. good (next d (choice_of ks)))) ≡ need 9 r >>= (λ u. judged_by (rules_before d) (choice_of ks) >>= (λ v. good (next d (choice_of ks)))))
          ⊎ ((p : ℕ) × (need 9 r >>= (λ u. judged_by (rules_before d) (choice_of ks) >>= (λ v. good (next d (choice_of ks)))) ≡ refused 10 p))
      by false e = inl refl
      by true e = ⊎_elim (λ q. inl (ap (λ (a : Answer (Unit {0})). a >>= (λ v. good (next d (choice_of ks)))) q)) (λ q. inr (q.0, ap (λ (a : Answer (Unit {0})). a >>= (λ v. good (next d (choice_of ks)))) q.1)) (judged (choice_of ks))

-- ---- step and pick
module _ (t b : List ℕ) (w : Terms) where
  -- step answers what it answered, or that was a 10
  pub step_as_before : (ks : List ℕ) → (step t b w ks ≡ step_before t b w ks) ⊎ ((p : ℕ) × (step_before t b w ks ≡ refused 10 p))
  unfolding step step_before
  step_as_before ks = rw (sym (board_as_before t b w)) (by (board t b w))
    where
      by : (a : Answer Board)
          → (a >>= (λ d. step_of d ks >>= (λ m. good (encode t m))) ≡ a >>= (λ d. step_of_before d ks >>= (λ m. good (encode t m))))
          ⊎ ((p : ℕ) × (a >>= (λ d. step_of_before d ks >>= (λ m. good (encode t m))) ≡ refused 10 p))
      by (refused n p) = inl refl
      by (good d) = ⊎_elim (λ q. inl (ap (λ (a : Answer Marking). a >>= (λ m. good (encode t m))) q)) (λ q. inr (q.0, ap (λ (a : Answer Marking). a >>= (λ m. good (encode t m))) q.1)) (step-of d ks)

  -- a is as a' was, or a choice that comes before that one
  pub record NoLater (a : Answer (List ℕ)) (ks' : List ℕ) : Type 0 where
    pub on : Board
    pub now : ℕ
    pub then : ℕ
    pub is_now : a ≡ good (taken on now)
    pub was_then : ks' ≡ taken on then
    pub no_later : (then ≡ now) ⊎ Before now then

  -- where a choice was picked, one is, and it is the same or comes before
  pub pick_no_later : (n : ℕ) (a : Answer (List ℕ)) (ks' : List ℕ) → Pick t b w n a → PickBefore t b w n (good ks') → NoLater a ks'
  unfolding Pick PickBefore
  pick_no_later n a ks' h was = by (board t b w) a h (subst (λ (r : Answer Board). PickIfBefore r n (good ks')) (sym (board_as_before t b w)) was)
    where
      by : (r : Answer Board) (a : Answer (List ℕ)) → PickIf r n a → PickIfBefore r n (good ks') → NoLater a ks'
      by (refused k p) a h q = never false (ap is_good (sym q)) refl
      by (good d) (refused k p) h q = never (wanted d n q.0) (still-wanted d n q.0 q.1.passes) (h.2.none-wanted q.0 q.1.is_set)
      by (good d) (good ks) h q = record {
        on = d;
        now = h.0;
        then = q.0;
        is_now = ap good h.2;
        was_then = q.2;
        no_later = h.1.before_others q.0 q.1.is_set (still-wanted d n q.0 q.1.passes);
      }

  -- what is refused was, with the same number and place
  pub refused-before : (n k p : ℕ) (a' : Answer (List ℕ)) → Pick t b w n (refused k p) → PickBefore t b w n a' → a' ≡ refused k p
  unfolding Pick PickBefore
  refused-before n k p a' h was = by (board t b w) a' h (subst (λ (r : Answer Board). PickIfBefore r n a') (sym (board_as_before t b w)) was)
    where
      by : (r : Answer Board) (a' : Answer (List ℕ)) → PickIf r n (refused k p) → PickIfBefore r n a' → a' ≡ refused k p
      by (refused k' p') a' h q = q ∙ sym h
      by (good d) (refused k' p') h q = rw (q.0, q.1, h.0, h.1)
      by (good d) (good ks) h q = never (wanted d n q.0) (still-wanted d n q.0 q.1.passes) (h.2.none-wanted q.0 q.1.is_set)
