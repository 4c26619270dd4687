-- Boards that differ in the order of their ends alone, and not in that of the ends at one node: choices that name the same ends are judged alike, but for the
-- place of 10, which is the number of an end, and give the same marking. Assumes nothing.
use mathlib.Core.Path.{◌≡◌, refl, sym, ap, ap₂, ◌∙◌, subst, fun_ext}
use Prim.Native.Nat.{ℕ, zero, suc, ◌+◌, ◌^◌, ◌<◌}
use mathlib.Core.Bool.{Bool, true, false, not, ◌&&◌, ◌||◌, cond}
use mathlib.Core.Logic.{◌⊎◌, inl, inr, ⊎_elim}
use mathlib.Core.List.{List, [], ◌∷◌, ◌++◌}
use mathlib.Core.Option.{Option, none, some}
use lib.Dec.{leb, eqb}
use lib.ListN.{length, take, drop}
use borrow.Author.Tests.{eq-eqb, eqb-true}
use Rattle.paper.specs.Lists.{has, below, all, any, keep, count, gather, each, lowest, within, ◌⇒◌}
use Rattle.paper.specs.Answers.{refused, judged_by, is_good}
use Rattle.paper.specs.Table.{nodes, kind, lower, upper, target, into, out, inputs, is_control, is_action, is_buffer, is_outgoing, is_object_node, is_fork, is_activity_final}
use Rattle.paper.specs.Marking.{Marking, ended_of, Field, stockOf, runsOf, tokensOf}
use Rattle.paper.specs.Offers.{Offer, first, last_edge, value, is_some, makers, origins, elem, made_at, compete, target_of, belongs}
use Rattle.paper.specs.Choices.{Board, how_many, end, taken, taken_ends, arrivals, taken_makers, rule1, passed_whole, rule2, action_agrees, agrees, rule3, spent, spend, gain, close, next, rules, acceptable}
use Rattle.paper.specs.Operations.{named, wanted, NoneFor, own_of, levels, left, SomeLeft, NoneLeft, FirstEmpty, Reason}
use Rattle.paper.proofs.Bools.{never, and-true, and_both, false_if, iff}
use Rattle.paper.proofs.Members.{In, any_in, in_any, all_in, in_all, in_keep, keep_in, keep-alike, find_none, none_found, in_each, each_in, in_gather, gather_in, in_keep-below, below_in, Distinct, in_entry, distinct-one}
use Rattle.paper.proofs.Lists.{keep-each, keep_same}
use Rattle.paper.proofs.Lengths.{each_below}
use Rattle.paper.proofs.Origins.{in_into}
use Rattle.paper.proofs.Sameness.{elem_in, in_elem}
use Rattle.paper.proofs.Taken.{taken_in}
use Rattle.paper.proofs.Bits.{word_of, same_digits}
use Rattle.paper.proofs.OneMarking.{content, same_fields}

-- ---- lists
found_none : {A : Type 0} {k : ℕ} → some k ≡ none → A
found_none h = never true refl (ap is_some h)

module _ {A : Type 0} where
  keep_swap : (p q : A → Bool) (xs : List A) → keep p (keep q xs) ≡ keep q (keep p xs)
  keep_swap p q [] = refl
  keep_swap p q (x ∷ xs) = by (p x) (q x) refl refl (keep_swap p q xs)
    where
      by : (a b : Bool) → p x ≡ a → q x ≡ b → keep p (keep q xs) ≡ keep q (keep p xs)
          → keep p (cond b (x ∷ keep q xs) (keep q xs)) ≡ keep q (cond a (x ∷ keep p xs) (keep p xs))
      by true true u v e = rw (u, v) (ap (λ z. x ∷ z) e)
      by true false u v e = rw v e
      by false true u v e = rw u e
      by false false u v e = e

  -- what is counted may be kept first
  count_kept : (p q : A → Bool) (xs : List A) → ((x : A) → p x ≡ true → q x ≡ true) → count p xs ≡ count p (keep q xs)
  count_kept p q [] h = refl
  count_kept p q (x ∷ xs) h = by (p x) (q x) refl refl (count_kept p q xs h)
    where
      by : (a b : Bool) → p x ≡ a → q x ≡ b → count p xs ≡ count p (keep q xs) → cond a (suc (count p xs)) (count p xs) ≡ count p (cond b (x ∷ keep q xs) (keep q xs))
      by true true u v e = rw u (ap suc e)
      by true false u v e = never (q x) (h x u) v
      by false true u v e = rw u e
      by false false u v e = e

  -- lists with the same members
  pub record Alike (xs ys : List A) : Type 0 where
    pub there : (x : A) → In x xs → In x ys
    pub back : (x : A) → In x ys → In x xs

  any_members : (p q : A → Bool) {xs ys : List A} → Alike xs ys → ((x : A) → p x ≡ q x) → any p xs ≡ any q ys
  any_members p q {xs} {ys} g h =
      iff _ _ (λ e. let r = any_in p xs e in in_any q (g.there r.0 r.1) (sym (h r.0) ∙ r.2))
      (λ e. let r = any_in q ys e in in_any p (g.back r.0 r.1) (h r.0 ∙ r.2))

  all_members : (p q : A → Bool) {xs ys : List A} → Alike xs ys → ((x : A) → p x ≡ q x) → all p xs ≡ all q ys
  all_members p q {xs} {ys} g h =
      iff _ _ (λ e. in_all q ys (λ x k. sym (h x) ∙ all_in p e (g.back x k)))
      (λ e. in_all p xs (λ x k. h x ∙ all_in q e (g.there x k)))

  all_alike : (p q : A → Bool) (xs : List A) → ((x : A) → In x xs → p x ≡ q x) → all p xs ≡ all q xs
  all_alike p q xs h = iff _ _ (λ e. in_all q xs (λ x k. sym (h x k) ∙ all_in p e k)) (λ e. in_all p xs (λ x k. h x k ∙ all_in q e k))

-- whether one rule by itself passes, by the place that it finds
abbrev alone : ℕ → Option ℕ → Bool
alone k o = is_good (judged_by {A = ℕ} ((k, λ c. o) ∷ []) 0)

-- what is left at a level, by the answers of its tests
left-values : (tests : List (ℕ → Bool)) (c k : ℕ) → all (λ test. test c) (take k tests) ≡ all (λ b. b) (take k (each (λ test. test c) tests))
left-values [] c zero = refl
left-values [] c (suc k) = refl
left-values (test ∷ tests) c zero = refl
left-values (test ∷ tests) c (suc k) = ap (λ b. test c && b) (left-values tests c k)

-- ---- the ends that a choice takes, of a board on which none stands twice
module _ (d : Board) (once : Distinct d.all_ends) where
  in_taken : (c : ℕ) {k : ℕ} → In k (taken d c) → (k < how_many d) × (has c k ≡ true)
  unfolding taken
  in_taken c k = in_keep-below (has c) (how_many d) k

  taken-end : (c : ℕ) {o : Offer} → In o (taken_ends d c) → (k : ℕ) × In k (taken d c) × (o ≡ end d k)
  unfolding taken_ends
  taken-end c m = in_each (end d) (taken d c) m

  end-taken : (c : ℕ) {k : ℕ} → In k (taken d c) → In (end d k) (taken_ends d c)
  unfolding taken_ends
  end-taken c m = each_in (end d) m

  one_number : (j k : ℕ) → j < how_many d → k < how_many d → end d j ≡ end d k → j ≡ k
  one_number j k lj lk e = distinct-one (first 0 none) d.all_ends once j k lj lk e

  -- an end is taken exactly if its number is in the choice
  pub taken_if : (c k : ℕ) → k < how_many d → elem (end d k) (taken_ends d c) ≡ has c k
  unfolding taken
  taken_if c k l =
      iff _ _
      (λ h. let r = taken-end c (elem_in (taken_ends d c) h) in let s = in_taken c r.1 in ap (has c) (one_number k r.0 l s.0 r.2) ∙ s.1)
      (λ h. in_elem (end-taken c (keep_in (has c) (below_in (how_many d) l) h)))

  -- so a set of ends has one number
  pub one_choice : (c x : ℕ) → c < 2 ^ how_many d → x < 2 ^ how_many d → ((o : Offer) → elem o (taken_ends d c) ≡ elem o (taken_ends d x)) → c ≡ x
  one_choice c x lc lx s = same_digits c x (how_many d) lc lx (λ k l. sym (taken_if c k l) ∙ s (end d k) ∙ taken_if x k l)

  -- they stand as in the list of ends
  taken-kept : (c : ℕ) → taken_ends d c ≡ keep (λ o. elem o (taken_ends d c)) d.all_ends
  unfolding taken_ends taken
  taken-kept c =
      ap (each (end d)) (keep_same (has c) (λ k. elem (end d k) (taken_ends d c)) (how_many d) (λ k l. sym (taken_if c k l)))
      ∙ sym (keep-each (λ o. elem o (taken_ends d c)) (end d) (below (how_many d)))
      ∙ ap (keep (λ o. elem o (taken_ends d c))) (each_below (first 0 none) (end d) d.all_ends (λ k l. refl))

-- ---- two orders
-- the ends at node n
abbrev pub at_node : List ℕ → ℕ → List Offer → List Offer
at_node t n es = keep (λ o. eqb (target_of t o) n) es

-- es and fs have the same ends, each once, and those at one node in the same order
pub record Regrouped (t : List ℕ) (es fs : List Offer) : Type 0 where
  pub once : Distinct es
  pub once' : Distinct fs
  pub at-node : (n : ℕ) → at_node t n es ≡ at_node t n fs

pub regrouped_back : {t : List ℕ} {es fs : List Offer} → Regrouped t es fs → Regrouped t fs es
regrouped_back g = record { once = g.once'; once' = g.once; at-node = λ n. sym (g.at-node n) }

-- two choices, each on its board, take the same ends
abbrev pub SameEnds : Board → ℕ → Board → ℕ → Type 0
SameEnds d c d' c' = (o : Offer) → elem o (taken_ends d c) ≡ elem o (taken_ends d' c')

-- the board with its ends in another order
abbrev pub in_order : Board → List Offer → Board
in_order d fs = record { table = d.table; current = d.current; all_offers = d.all_offers; all_ends = fs }

module _ (d : Board) (fs : List Offer) (g : Regrouped d.table d.all_ends fs) where
  abbrev t : List ℕ
  t = d.table

  abbrev other : Board
  other = in_order d fs

  module _ (c c' : ℕ) (s : SameEnds d c other c') where
    ends-alike : Alike (taken_ends d c) (taken_ends other c')
    ends-alike = record {
      there = λ o k. elem_in (taken_ends other c') (sym (s o) ∙ in_elem k);
      back = λ o k. elem_in (taken_ends d c) (s o ∙ in_elem k);
    }

    makers-alike : Alike (taken_makers d c) (taken_makers other c')
    unfolding taken_makers
    makers-alike = record {
      there = λ o k. let r = in_gather makers (taken_ends d c) k in gather_in makers (ends-alike.there r.0 r.1) r.2;
      back = λ o k. let r = in_gather makers (taken_ends other c') k in gather_in makers (ends-alike.back r.0 r.1) r.2;
    }

    any-end : (p : Offer → Bool) → any p (taken_ends d c) ≡ any p (taken_ends other c')
    any-end p = any_members p p ends-alike (λ o. refl)

    any_maker : (p : Offer → Bool) → any p (taken_makers d c) ≡ any p (taken_makers other c')
    any_maker p = any_members p p makers-alike (λ o. refl)

    elem_maker : (o : Offer) → elem o (taken_makers d c) ≡ elem o (taken_makers other c')
    unfolding elem
    elem_maker o = any_maker _

    -- what arrives at a node, in its order
    pub arrivals-same : (n : ℕ) → arrivals d c n ≡ arrivals other c' n
    unfolding arrivals
    arrivals-same n =
        ap (at_node t n) (taken-kept d g.once c)
        ∙ keep_swap (λ o. eqb (target_of t o) n) (λ o. elem o (taken_ends d c)) d.all_ends
        ∙ ap (keep (λ o. elem o (taken_ends d c))) (g.at-node n)
        ∙ keep-alike (λ o. elem o (taken_ends d c)) (λ o. elem o (taken_ends other c')) (at_node t n fs) (λ o k. s o)
        ∙ keep_swap (λ o. elem o (taken_ends other c')) (λ o. eqb (target_of t o) n) fs
        ∙ sym (ap (at_node t n) (taken-kept other g.once' c'))

    -- ---- the rules
    no_rule1 : rule1 d c ≡ none → rule1 other c' ≡ none
    unfolding rule1
    no_rule1 h = find_none (λ k. any (λ j. not (eqb j k) && compete t (end other k) (end other j)) (taken other c')) (taken other c') (λ k' x. false_if _ (λ q.
        let r = any_in (λ j. not (eqb j k') && compete t (end other k') (end other j)) (taken other c') q in
        let u = and-true (not (eqb r.0 k')) _ r.2 in
        let k = taken-end d g.once c (ends-alike.back (end other k') (end-taken other g.once' c' x)) in
        let j = taken-end d g.once c (ends-alike.back (end other r.0) (end-taken other g.once' c' r.1)) in
        let differ : not (eqb j.0 k.0) ≡ true = ap not (false_if _ (λ e.
        never _ u.0 (ap not (eq-eqb r.0 k'
        (one_number other g.once' r.0 k' (in_taken other g.once' c' r.1).0 (in_taken other g.once' c' x).0
        (j.2 ∙ ap (end d) (eqb-true j.0 k.0 e) ∙ sym k.2)))))) in
        never _
        (in_any (λ i. not (eqb i k.0) && compete t (end d k.0) (end d i)) j.1 (and_both _ _ differ (sym (ap₂ (compete t) k.2 j.2) ∙ u.1)))
        (none_found (λ k. any (λ j. not (eqb j k) && compete t (end d k) (end d j)) (taken d c)) (taken d c) h k.1)))

    passed-same : (n : ℕ) → passed_whole d c n ≡ passed_whole other c' n
    unfolding passed_whole
    passed-same n = all_members _ _ makers-alike (λ o.
        ap₂ ◌⇒◌ (any_maker _) (all_alike _ _ d.all_offers (λ y k. ap (λ (b : Bool). eqb (made_at t y) n && elem o (origins y) ⇒ b) (elem_maker y))))

    pub rule2-same : rule2 d c ≡ rule2 other c'
    unfolding rule2
    rule2-same = ap (λ (p : ℕ → Bool). lowest (λ n. is_fork (kind t n) && not (p n)) (nodes t)) (fun_ext passed-same)

    -- on an edge into node n
    count_same : (n e : ℕ) → target t e ≡ n → count (λ o. eqb (last_edge o) e) (taken_ends d c) ≡ count (λ o. eqb (last_edge o) e) (taken_ends other c')
    unfolding arrivals
    count_same n e h = kept d c ∙ ap (count (λ o. eqb (last_edge o) e)) (arrivals-same n) ∙ sym (kept other c')
      where
        at_n : (o : Offer) → eqb (last_edge o) e ≡ true → eqb (target_of t o) n ≡ true
        at_n o k = eq-eqb (target_of t o) n (ap (target t) (eqb-true (last_edge o) e k) ∙ h)

        kept : (x : Board) (y : ℕ) → count (λ o. eqb (last_edge o) e) (taken_ends x y) ≡ count (λ o. eqb (last_edge o) e) (at_node t n (taken_ends x y))
        kept x y = count_kept (λ o. eqb (last_edge o) e) (λ o. eqb (target_of t o) n) (taken_ends x y) at_n

    action_same : (n : ℕ) → action_agrees d c n ≡ action_agrees other c' n
    unfolding action_agrees
    action_same n =
        ap₂ (λ (a b : Bool). not (d.current.runs n) && a && b)
        (all_alike _ _ (keep (is_control t) (into t n)) (λ e k. ap (λ z. eqb z 1) (count_same n e (in_into t n (in_keep (is_control t) (into t n) k).0).1)))
        (all_alike _ _ (inputs t n) (λ p k. ap (λ (os : List Offer). within (lower t p) (upper t p) (length os)) (arrivals-same p)))

    agrees-same : (n : ℕ) → agrees d c n ≡ agrees other c' n
    unfolding agrees
    agrees-same n =
        ap₂ ◌&&◌
        (ap₂ (λ (a b : Bool). is_action (kind t n) && a ⇒ b) (any-end (belongs t n)) (action_same n))
        (ap (λ (os : List Offer). is_buffer (kind t n) || is_outgoing (kind t n) ⇒ leb (length (d.current.stock n) + length os) (upper t n)) (arrivals-same n))

    pub rule3-same : rule3 d c ≡ rule3 other c'
    unfolding rule3
    rule3-same = ap (λ (p : ℕ → Bool). lowest (λ n. not (p n)) (nodes t)) (fun_ext agrees-same)

    -- ---- the step
    spent-same : (e : ℕ) → spent d c e ≡ spent other c' e
    unfolding spent
    spent-same e = any_maker _

    spend-same : (m : Marking) → spend d c m ≡ spend other c' m
    unfolding spend
    spend-same m = same_fields _ _ refl by
      where
        by : (f : Field) → content (spend d c m) f ≡ content (spend other c' m) f
        by (stockOf n) = ap (λ (p : ℕ → Bool). cond (any p (out t n)) (drop 1 (m.stock n)) (m.stock n)) (fun_ext spent-same)
        by (runsOf n) = refl
        by (tokensOf e) = ap (λ (b : Bool). cond b 0 (m.tokens e)) (spent-same e)

    abbrev values : Option ℕ → List ℕ
    values none = []
    values (some v) = v ∷ []

    gain-same : (m : Marking) → gain d c m ≡ gain other c' m
    unfolding gain
    gain-same m = same_fields _ _ refl by
      where
        by : (f : Field) → content (gain d c m) f ≡ content (gain other c' m) f
        by (stockOf n) = ap (λ (os : List Offer). m.stock n ++ cond (is_object_node (kind t n)) (gather (λ o. values (value o)) os) []) (arrivals-same n)
        by (runsOf n) = ap (λ (b : Bool). m.runs n || (is_action (kind t n) && b)) (any-end (belongs t n))
        by (tokensOf e) = refl

    close-same : (m : Marking) → close d c m ≡ close other c' m
    unfolding close
    close-same m = ap (λ (b : Bool). cond b (ended_of t m) m) (any-end (λ o. is_activity_final (kind t (target_of t o))))

    -- the same set of ends gives the same marking
    pub next-same : next d c ≡ next other c'
    unfolding next
    next-same = close-same (gain d c (spend d c d.current)) ∙ ap (close other c') (gain-same (spend d c d.current) ∙ ap (gain other c') (spend-same d.current))

-- ---- a set of ends under the numbers of either board
module _ (d : Board) (fs : List Offer) (g : Regrouped d.table d.all_ends fs) where
  abbrev another : Board
  another = in_order d fs

  -- judged alike, or refused by rule 1 on both, each at a number of its own
  pub record BothCompete (c c' : ℕ) : Type 0 where
    pub place : ℕ
    pub place' : ℕ
    pub judged : judged_by (rules d) c ≡ refused 10 place
    pub judged' : judged_by (rules another) c' ≡ refused 10 place'

  module _ (c c' : ℕ) (s : SameEnds d c another c') where
    -- rule 1 finds none on both, or one on each
    rule1_both : ((rule1 d c ≡ none) × (rule1 another c' ≡ none)) ⊎ ((p : ℕ) × (p' : ℕ) × (rule1 d c ≡ some p) × (rule1 another c' ≡ some p'))
    rule1_both = by (rule1 d c) (rule1 another c') refl refl
      where
        by : (o p : Option ℕ) → rule1 d c ≡ o → rule1 another c' ≡ p → ((rule1 d c ≡ none) × (rule1 another c' ≡ none)) ⊎ ((p : ℕ) × (p' : ℕ) × (rule1 d c ≡ some p) × (rule1 another c' ≡ some p'))
        by none none e f = inl (e, f)
        by none (some p) e f = found_none (sym f ∙ no_rule1 d fs g c c' s e)
        by (some p) none e f = found_none (sym e ∙ no_rule1 another d.all_ends (regrouped_back g) c' c (λ o. sym (s o)) f)
        by (some p) (some q) e f = inr (p, q, e, f)

    pub judged_same : (judged_by (rules d) c ≡ judged_by (rules another) c') ⊎ BothCompete c c'
    judged_same =
        ⊎_elim (λ r. inl (rw (r.0, r.1, rule2-same d fs g c c' s, rule3-same d fs g c c' s)))
        (λ r. inr (record { place = r.0; place' = r.1; judged = rw r.2; judged' = rw r.3 })) rule1_both

    pub acceptable-same : acceptable d c ≡ acceptable another c'
    unfolding acceptable
    acceptable-same = ⊎_elim (λ e. ap is_good e) (λ e. ap is_good e.judged ∙ sym (ap is_good e.judged')) judged_same

    pub wanted-same : (n : ℕ) → wanted d n c ≡ wanted another n c'
    unfolding wanted
    wanted-same n = ap₂ (λ (a b : Bool). a && (not (named n) || b)) acceptable-same (any-end d fs g c c' s (belongs d.table n))

    -- what each level asks
    level-values : (n : ℕ) → each (λ test. test c) (levels d n) ≡ each (λ test. test c') (levels another n)
    unfolding levels
    level-values n =
        let t = d.table in
        ap₂ ◌∷◌ (any-end d fs g c c' s (belongs t n)) (ap₂ ◌∷◌ (agrees-same d fs g c c' s (own_of t n))
        (ap₂ ◌∷◌ rule1-alike (ap₂ ◌∷◌ (ap (alone 11) (rule2-same d fs g c c' s)) (ap (λ b. b ∷ []) (ap (alone 12) (rule3-same d fs g c c' s))))))
      where
        rule1-alike : alone 10 (rule1 d c) ≡ alone 10 (rule1 another c')
        rule1-alike = ⊎_elim (λ e. ap (alone 10) (e.0 ∙ sym e.1)) (λ e. rw (e.2, e.3)) rule1_both

    left-same : (n k : ℕ) → left (levels d n) k c ≡ left (levels another n) k c'
    unfolding left
    left-same n k =
        left-values (levels d n) c k ∙ ap (λ bs. all (λ b. b) (take k bs)) (level-values n) ∙ sym (left-values (levels another n) c' k)

  -- every set has its numbers on the other board
  pub renumbered : (c : ℕ) → (c' : ℕ) × (c' < 2 ^ how_many another) × SameEnds d c another c'
  renumbered c =
      let r = word_of (λ k. elem (end another k) (taken_ends d c)) (how_many another) in (
        r.0,
        r.1,
        λ o. iff _ _
            (λ h.
            let k = in_entry (first 0 none) (over-there (taken_in d c (elem_in (taken_ends d c) h))) in
            let is : elem (end another k.0) (taken_ends d c) ≡ true = ap (λ x. elem x (taken_ends d c)) (sym k.2) ∙ h in
            ap (λ x. elem x (taken_ends another r.0)) k.2 ∙ taken_if another g.once' r.0 k.0 k.1 ∙ r.2 k.0 k.1 ∙ is)
            (λ h.
            let k = taken-end another g.once' r.0 (elem_in (taken_ends another r.0) h) in
            let l = in_taken another g.once' r.0 k.1 in
            ap (λ x. elem x (taken_ends d c)) k.2 ∙ sym (r.2 k.0 l.0) ∙ l.1),
      )
    where
      over-there : {o : Offer} → In o d.all_ends → In o fs
      over-there {o} k =
          (in_keep (λ p. eqb (target_of d.table p) (target_of d.table o)) fs
          (subst (In o) (g.at-node (target_of d.table o)) (keep_in (λ p. eqb (target_of d.table p) (target_of d.table o)) k (eq-eqb (target_of d.table o) (target_of d.table o) refl)))).0

-- ---- what is asked over all sets
module _ (d : Board) (fs : List Offer) (g : Regrouped d.table d.all_ends fs) where
  -- a set of ends of the other board, under the numbers of this one
  here_again : (x : ℕ) → (c : ℕ) × (c < 2 ^ how_many d) × SameEnds (in_order d fs) x d c
  here_again x = renumbered (in_order d fs) d.all_ends (regrouped_back g) x

  -- 13
  pub none_for_same : (n : ℕ) → NoneFor d n → NoneFor (in_order d fs) n
  none_for_same n h = record {
    is-named = h.is-named;
    none-wanted = λ x l. let r = here_again x in wanted-same (in_order d fs) d.all_ends (regrouped_back g) x r.0 r.2 n ∙ h.none-wanted r.0 r.1;
  }

  -- a reason
  some-left-same : (n k : ℕ) → SomeLeft (levels d n) (how_many d) k → SomeLeft (levels (in_order d fs) n) (length fs) k
  some-left-same n k h = let r = renumbered d fs g h.0 in (r.0, r.1, sym (left-same d fs g h.0 r.0 r.2 n k) ∙ h.2)

  none-left-same : (n k : ℕ) → NoneLeft (levels d n) (how_many d) k → NoneLeft (levels (in_order d fs) n) (length fs) k
  none-left-same n k h x l = let r = here_again x in left-same (in_order d fs) d.all_ends (regrouped_back g) x r.0 r.2 n k ∙ h r.0 r.1

  pub reason_same : (n r : ℕ) → Reason d n r → Reason (in_order d fs) n r
  unfolding levels
  reason_same n r h = record { none_named = h.none_named; is_first_empty = λ e. by r (h.is_first_empty e) }
    where
      by : (r : ℕ) → FirstEmpty (levels d n) (how_many d) r → FirstEmpty (levels (in_order d fs) n) (length fs) r
      by zero q = some-left-same n (length (levels d n)) q
      by (suc k) q = (none-left-same n (suc k) q.0, λ j l. some-left-same n j (q.1 j l))
