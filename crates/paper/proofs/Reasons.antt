-- Why (wish 4): on every board each node has exactly one reason, and a search over all sets of ends finds it; it is 0 exactly if pick isn't refused with 13. A
-- node that doesn't exist gets 1, 255 gets 0, and from 2 on an end belongs to the node. Assumes nothing.
use mathlib.Core.Path.{◌≡◌, refl, sym, ap, subst, ◌∙◌}
use Prim.Native.Nat.{ℕ, zero, suc, ◌≤◌, ◌<◌}
use native.Mathlib.Omega.{arith}
use mathlib.Core.Bool.{Bool, true, false, not, ◌&&◌, cond}
use mathlib.Core.Logic.{⊎_elim}
use mathlib.Core.List.{List, [], ◌∷◌}
use mathlib.Core.Option.{Option, none, some}
use lib.Dec.{ltb, eqb}
use lib.ListN.{length}
use borrow.Author.Tests.{eqb-true, ltb-true, not-true, not-false}
use Rattle.paper.specs.Lists.{all, any}
use Rattle.paper.specs.Limits.{limits}
use Rattle.paper.specs.Answers.{Answer, refused, good, ◌>>=◌, refuse_if, judged_by, is_good}
use Rattle.paper.specs.Table.{nodes, edges, kind, owner, is_pin, is_action}
use Rattle.paper.specs.Offers.{Offer, last_edge, Terms, goes_over, offers, target_of, belongs}
use Rattle.paper.specs.Choices.{Board, board, how_many, taken_ends, agrees, rule3, rules, acceptable}
use Rattle.paper.specs.Operations.{named, wanted, PickOn, PickIf, Pick, own_of, levels, left, SomeLeft, NoneLeft, FirstEmpty, Reason, WhyIf, Why}
use Rattle.paper.proofs.Bools.{never, and-true, and_both, or-true, or_right, iff, false_if, true_or_false}
use Rattle.paper.proofs.Members.{In, here, later, any_in, all_in}
use Rattle.paper.proofs.Lists.{lowest-is-none}
use Rattle.paper.proofs.Tables.{GoodTable, table-good}
use Rattle.paper.proofs.Boards.{board-good}
use Rattle.paper.proofs.Origins.{in_offers}
use Rattle.paper.proofs.Sameness.{on-last}
use Rattle.paper.proofs.Ends.{in_ends}
use Rattle.paper.proofs.Taken.{taken_in}
use Rattle.paper.proofs.Levels.{first_one, first_fits, first_next, some-at_0, first_empty, first-there}

-- ---- exactly one reason, on any board
reason_named : (d : Board) (n r s : ℕ) (b : Bool) → named n ≡ b → Reason d n r → Reason d n s → r ≡ s
reason_named d n r s true e f g = first_one (levels d n) (how_many d) r s (f.is_first_empty e) (g.is_first_empty e)
reason_named d n r s false e f g = f.none_named e ∙ sym (g.none_named e)

pub one_reason : (d : Board) (n r s : ℕ) → Reason d n r → Reason d n s → r ≡ s
one_reason d n r s f g = reason_named d n r s (named n) refl f g

abbrev pub reason_on : Board → ℕ → ℕ
reason_on d n = cond (named n) (first_empty (levels d n) (how_many d)) 0

pub some_reason : (d : Board) (n : ℕ) → Reason d n (reason_on d n)
some_reason d n = record {
  none_named = λ e. rw e refl;
  is_first_empty = λ e. rw e (first-there (levels d n) (how_many d));
}

-- it is at most 5
pub reason_fits : (d : Board) (n r : ℕ) → Reason d n r → r ≤ 5
unfolding levels
reason_fits d n r f = by (named n) refl
  where
    by : (b : Bool) → named n ≡ b → r ≤ 5
    by true e = first_fits (levels d n) (how_many d) r (f.is_first_empty e)
    by false e = omega (arith, f.none_named e)

-- ---- on bytes
why_one_if : (r : Answer Board) (n : ℕ) (x y : Answer (List ℕ)) → WhyIf r n x → WhyIf r n y → x ≡ y
why_one_if (refused k p) n x y h i = h ∙ sym i
why_one_if (good d) n x y h i = h.2 ∙ ap (λ (r : ℕ). good (r ∷ [])) (one_reason d n h.0 i.0 h.1 i.1) ∙ sym i.2

pub why_one : (t b : List ℕ) (w : Terms) (n : ℕ) (x y : Answer (List ℕ)) → Why t b w n x → Why t b w n y → x ≡ y
unfolding Why
why_one t b w n x y h i = why_one_if (board t b w) n x y h i

-- the search computes, so worked cases can be tried
abbrev pub reasoned_on : Answer Board → ℕ → Answer (List ℕ)
reasoned_on (refused k p) n = refused k p
reasoned_on (good d) n = good (reason_on d n ∷ [])

unfoldable pub reasoned : List ℕ → List ℕ → Terms → ℕ → Answer (List ℕ)
reasoned t b w n = reasoned_on (board t b w) n

reasoned_if : (r : Answer Board) (n : ℕ) → WhyIf r n (reasoned_on r n)
reasoned_if (refused k p) n = refl
reasoned_if (good d) n = (reason_on d n, some_reason d n, refl)

pub whys : (t b : List ℕ) (w : Terms) (n : ℕ) → Why t b w n (reasoned t b w n)
unfolding Why reasoned
whys t b w n = reasoned_if (board t b w) n

-- ---- where the ends' last edges are the table's, as on every board that was read
abbrev pub EndsInside : Board → Type 0
EndsInside d = (o : Offer) → In o d.all_ends → last_edge o < edges d.table

pub ends-inside : (t b : List ℕ) (w : Terms) (d : Board) → board t b w ≡ good d → EndsInside d
ends-inside t b w d h o k =
    let f = (board-good t b w d h).facts in
    let r = in_ends t (offers t (goes_over w) d.current) (subst (λ (os : List Offer). In o os) f.is-ends k) in
    let s = in_offers t (goes_over w) d.current r.0 in
    rw (f.is-table, on-last t (goes_over w) d.current limits.longest_path s.0 s.2) s.1

-- a node to which an end belongs exists, and so does the node whose rule is its own
belongs-inside : (t : List ℕ) → GoodTable t limits → (n : ℕ) (o : Offer) → last_edge o < edges t → belongs t n o ≡ true → n < nodes t
unfolding belongs
belongs-inside t g n o l h =
    let f = g.edge (last_edge o) l in
    ⊎_elim (λ a. subst (λ (i : ℕ). i < nodes t) (eqb-true (target_of t o) n a) f.target_fits)
    (λ a. let r = and-true (is_pin (kind t (target_of t o))) _ a in
    let q = rw r.0 at (g.node (target_of t o) f.target_fits).owner-fine in
    subst (λ (i : ℕ). i < nodes t) (eqb-true (owner t (target_of t o)) n r.1) (ltb-true _ _ (and-true (ltb (owner t (target_of t o)) (nodes t)) _ q).0))
    (or-true (eqb (target_of t o) n) _ h)

pub own_inside : (t : List ℕ) → GoodTable t limits → (n : ℕ) → n < nodes t → own_of t n < nodes t
unfolding own_of
own_inside t g n l = by (is_pin (kind t n)) (g.node n l).owner-fine
  where
    by : (b : Bool) → cond b (ltb (owner t n) (nodes t) && is_action (kind t (owner t n))) (eqb (owner t n) 255) ≡ true → cond b (owner t n) n < nodes t
    by true h = ltb-true _ _ (and-true (ltb (owner t n) (nodes t)) _ h).0
    by false h = l

-- a list of rules is passed exactly if each of them is
judged_each : {A : Type 0} (rs : List (ℕ × (A → Option ℕ))) (a : A) → is_good (judged_by rs a) ≡ all (λ r. is_good (judged_by (r ∷ []) a)) rs
judged_each [] a = refl
judged_each (r ∷ rs) a = by (r.1 a) (judged_each rs a)
  where
    by : (o : Option ℕ) → is_good (judged_by rs a) ≡ all (λ r. is_good (judged_by (r ∷ []) a)) rs
        → is_good (refuse_if r.0 o >>= (λ u. judged_by rs a)) ≡ is_good (refuse_if r.0 o >>= (λ u. judged_by [] a)) && all (λ r. is_good (judged_by (r ∷ []) a)) rs
    by none e = e
    by (some p) e = refl

passed_none : (k : ℕ) (o : Option ℕ) → is_good (refuse_if k o >>= (λ u. good (tt {0}))) ≡ true → o ≡ none
passed_none k none h = refl
passed_none k (some p) h = never false h refl

destinations_last : (d : Board) → In {A = ℕ × (ℕ → Option ℕ)} (12, rule3 d) (rules d)
destinations_last d = later (later (here refl))

module _ (d : Board) (g : GoodTable d.table limits) (inside : EndsInside d) (n : ℕ) where
  -- the choice takes an end of the node
  abbrev takes : ℕ → Bool
  takes c = any (belongs d.table n) (taken_ends d c)

  an_end : (c : ℕ) → takes c ≡ true → (o : Offer) × In o d.all_ends × (belongs d.table n o ≡ true)
  an_end c h = let r = any_in (belongs d.table n) (taken_ends d c) h in (r.0, taken_in d c r.1, r.2)

  node-there : (c : ℕ) → takes c ≡ true → n < nodes d.table
  node-there c h = let r = an_end c h in belongs-inside d.table g n r.0 (inside r.0 r.1) r.2

  -- ---- what is left at the last level is what pick wants: the node's own rule is one of the destinations'
  own_agrees : (c : ℕ) → takes c ≡ true → rule3 d c ≡ none → agrees d c (own_of d.table n) ≡ true
  unfolding rule3
  own_agrees c h e =
      not-false _ (lowest-is-none (λ i. not (agrees d c i)) (nodes d.table) e (own_of d.table n) (own_inside d.table g n (node-there c h)))

  left-wanted : (c : ℕ) → left (levels d n) (length (levels d n)) c ≡ true → wanted d n c ≡ true
  unfolding left levels wanted acceptable
  left-wanted c h =
      let a = and-true (takes c) _ h in
      let b = and-true (agrees d c (own_of d.table n)) _ a.1 in
      and_both (is_good (judged_by (rules d) c)) _ (judged_each (rules d) c ∙ b.1) (or_right (not (named n)) _ a.0)

  wanted-left : named n ≡ true → (c : ℕ) → wanted d n c ≡ true → left (levels d n) (length (levels d n)) c ≡ true
  unfolding left levels wanted acceptable
  wanted-left e c h =
      let a = and-true (is_good (judged_by (rules d) c)) _ h in
      let k : takes c ≡ true = ⊎_elim (λ q. never (named n) e (not-true (named n) q)) (λ q. q) (or-true (not (named n)) _ a.1) in
      let b = sym (judged_each (rules d) c) ∙ a.0 in
      let b3 = all_in (λ r. is_good (judged_by (r ∷ []) c)) b (destinations_last d) in
      and_both (takes c) _ k (and_both (agrees d c (own_of d.table n)) _ (own_agrees c k (passed_none 12 (rule3 d c) b3)) b)

  pub last-level : named n ≡ true → (c : ℕ) → left (levels d n) (length (levels d n)) c ≡ wanted d n c
  last-level e c = iff _ _ (left-wanted c) (wanted-left e c)

  -- ---- "A node that doesn't exist gets 1"
  first-level : (c : ℕ) → left (levels d n) 1 c ≡ true → takes c ≡ true
  unfolding left levels
  first-level c h = (and-true (takes c) true h).0

  pub none-of_missing : nodes d.table ≤ n → NoneLeft (levels d n) (how_many d) 1
  none-of_missing l c s = false_if _ (λ h. let r = node-there c (first-level c h) in absurd (omega arith))

  pub missing_first : nodes d.table ≤ n → FirstEmpty (levels d n) (how_many d) 1
  missing_first l = first_next (levels d n) (how_many d) 0 (some-at_0 (levels d n) (how_many d)) (none-of_missing l)

  pub missing_gets_1 : named n ≡ true → nodes d.table ≤ n → (r : ℕ) → Reason d n r → r ≡ 1
  missing_gets_1 e l r f = first_one (levels d n) (how_many d) r 1 (f.is_first_empty e) (missing_first l)

  module _ (r : ℕ) (f : Reason d n r) where
    -- "255 names none and gets 0", so any other reason is that of a node
    is-named : 1 ≤ r → named n ≡ true
    is-named l = ⊎_elim (λ e. e) (λ e. absurd (omega (arith, f.none_named e))) (true_or_false (named n))

    -- ---- from 2 on, an end belongs to the node
    pub has_end : 2 ≤ r → (o : Offer) × In o d.all_ends × (belongs d.table n o ≡ true)
    has_end l = by r l (f.is_first_empty (is-named (omega arith)))
      where
        by : (r : ℕ) → 2 ≤ r → FirstEmpty (levels d n) (how_many d) r → (o : Offer) × In o d.all_ends × (belongs d.table n o ≡ true)
        by zero l g = absurd (omega arith)
        by (suc k) l g = let s = g.1 1 (omega arith) in an_end s.0 (first-level s.0 s.2)

    -- ---- 0 exactly if pick isn't refused with 13
    pub picked-at_0 : r ≡ 0 → (k p : ℕ) → PickOn d n (refused k p) → ⊥
    picked-at_0 e k p h =
        let i = h.2.is-named in
        let s : SomeLeft (levels d n) (how_many d) (length (levels d n)) = rw e at (f.is_first_empty i) in
        never (wanted d n s.0) (left-wanted s.0 s.2) (h.2.none-wanted s.0 s.1)

    pub refused_past_0 : 1 ≤ r → (a : Answer (List ℕ)) → PickOn d n a → a ≡ refused 13 n
    refused_past_0 l (refused k p) h = cc (h.0, h.1)
    refused_past_0 l (good ks) h =
        let i = is-named l in
        let z : FirstEmpty (levels d n) (how_many d) 0 = (h.0, h.1.is_set, wanted-left i h.0 h.1.passes) in
        absurd (omega (arith, first_one (levels d n) (how_many d) r 0 (f.is_first_empty i) z))

-- ---- the same of bytes
module _ (t b : List ℕ) (w : Terms) (d : Board) (on : board t b w ≡ good d) (n : ℕ) where
  table-is-good : GoodTable d.table limits
  table-is-good = let f = board-good t b w d on in rw f.facts.is-table (table-good t limits f.table-fine)

  module _ (r : ℕ) (answer : Why t b w n (good (r ∷ []))) where
    pub the_reason : Reason d n r
    unfolding Why
    the_reason =
        let s : WhyIf (good d) n (good (r ∷ [])) = rw on at answer in
        let e : s.0 ≡ r = cc s.2 in
        subst (Reason d n) e s.1

    -- 0 exactly if pick isn't refused with 13
    pub why_0_pick : r ≡ 0 → (k p : ℕ) → Pick t b w n (refused k p) → ⊥
    unfolding Pick
    why_0_pick e k p h = let s : PickIf (good d) n (refused k p) = rw on at h in picked-at_0 d table-is-good (ends-inside t b w d on) n r the_reason e k p s

    pub why_13 : 1 ≤ r → (a : Answer (List ℕ)) → Pick t b w n a → a ≡ refused 13 n
    unfolding Pick
    why_13 l a h = let s : PickIf (good d) n a = rw on at h in refused_past_0 d table-is-good (ends-inside t b w d on) n r the_reason l a s

    pub why_missing : named n ≡ true → nodes t ≤ n → r ≡ 1
    why_missing e l = missing_gets_1 d table-is-good (ends-inside t b w d on) n e (rw (board-good t b w d on).facts.is-table l) r the_reason

    pub why_end : 2 ≤ r → (o : Offer) × In o d.all_ends × (belongs d.table n o ≡ true)
    why_end l = has_end d table-is-good (ends-inside t b w d on) n r the_reason l

    pub why_fits : r ≤ 5
    why_fits = reason_fits d n r the_reason

  pub why_255 : (r : ℕ) → Why t b w 255 (good (r ∷ [])) → r ≡ 0
  unfolding Why
  why_255 r h =
      let s : WhyIf (good d) 255 (good (r ∷ [])) = rw on at h in
      let e : s.0 ≡ r = cc s.2 in
      sym e ∙ s.1.none_named refl
