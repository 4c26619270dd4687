-- The order of ends as it was before wish 5 ("group the sheet by destination"), kept here alone, and what of it stands: the ends at one node stand as they did, so
-- values arrive at any one stock in the order of before (`order-at-node`, `arrivals_stay`); a board has the ends that it had, so 8 is given as before
-- (`board-before`); a set of ends, under its numbers of then and of now, is judged alike but for the place of 10, and gives the same marking (`step_as_before`,
-- `next_as_before`), and every set has both (`numbers_now`, `numbers_then`); 13 and why's reasons are those of before (`pick_13_as_before`, `why_as_before`).
-- Assumes nothing.
use mathlib.Core.Path.{◌≡◌, refl, sym, ap, ap₂, ◌∙◌, subst}
use Prim.Native.Nat.{ℕ, ◌^◌, ◌<◌, compare, Ordering}
use mathlib.Core.Bool.{Bool, true, false, not, ◌&&◌}
use mathlib.Core.Logic.{◌⊎◌, inl, inr, ⊎_elim}
use mathlib.Core.List.{List}
use mathlib.Core.Option.{Option, none, some}
use lib.Dec.{ltb, eqb}
use lib.ListN.{length}
use borrow.Author.Tests.{eqb-true}
use Rattle.paper.specs.Lists.{all, keep}
use Rattle.paper.specs.Answers.{Answer, refused, good, ◌>>=◌, need, known}
use Rattle.paper.specs.Limits.{limits}
use Rattle.paper.specs.Table.{target, table_fine}
use Rattle.paper.specs.Marking.{Marking, encode, marking}
use Rattle.paper.specs.Offers.{Offer, last_edge, sorted_paths, guards_fine, bounds_fine, Terms, goes_over, offers, is_end, target_of, then_by, lex, sort, end_order, ends, sizes_fine}
use Rattle.paper.specs.Choices.{Board, board_of, board, how_many, arrivals, next}
use Rattle.paper.specs.Operations.{PickIf, Pick, WhyIf, Why, rising, choice_of, step_of, step}
use Rattle.paper.proofs.Members.{In, in_keep, keep_in, Distinct, distinct-keep}
use Rattle.paper.proofs.Sameness.{in_elem, distinct-offers}
use Rattle.paper.proofs.Orders.{Lawful, compare_lawful, compare_exact, compare_same, lex_lawful, pair_lawful, then_eq, sort-length, sort_in, in_sort, sort-distinct, sort_sorts, sorted_rises, Rising, rising-keep, rising_by, rising_unique}
use Rattle.paper.proofs.Ends.{in_ends, ends_in, ends-length, alike-offers, ends-once, ends_rise}
use Rattle.paper.proofs.Boards.{board-good}
use Rattle.paper.proofs.OtherBoards.{sizes_fine_by, board_of_by, board_by}
use Rattle.paper.proofs.Regrouped.{at_node, Regrouped, regrouped_back, SameEnds, in_order, arrivals-same, next-same, judged_same, renumbered, none_for_same, reason_same}

-- ---- the definitions before
end_order_before : Offer → Offer → Ordering
end_order_before o p = then_by (compare (last_edge o) (last_edge p)) (lex (lex compare) (sorted_paths o) (sorted_paths p))

pub ends_before : List ℕ → List Offer → List Offer
ends_before t os = sort end_order_before (keep (is_end t) os)

pub board_before : List ℕ → List ℕ → Terms → Answer Board
board_before = board_by offers ends_before

pub step_before : List ℕ → List ℕ → Terms → List ℕ → Answer (List ℕ)
step_before t b w ks = do
  d ← board_before t b w
  m ← step_of d ks
  good (encode t m)

pub PickBefore : List ℕ → List ℕ → Terms → ℕ → Answer (List ℕ) → Type 0
PickBefore t b w n a = PickIf (board_before t b w) n a

pub WhyBefore : List ℕ → List ℕ → Terms → ℕ → Answer (List ℕ) → Type 0
WhyBefore t b w n a = WhyIf (board_before t b w) n a

-- ---- the order of before
before_lawful : Lawful end_order_before
unfolding end_order_before
before_lawful = pair_lawful compare_lawful (lex_lawful (lex_lawful compare_lawful)) last_edge sorted_paths

module _ (t : List ℕ) (o p : Offer) where
  -- of ends at one node the order of now is that of before
  one-node : target_of t o ≡ target_of t p → end_order t o p ≡ end_order_before o p
  unfolding end_order end_order_before
  one-node e = rw (compare_same (target_of t o) (target_of t p) e)

  -- what was alike is
  still_alike : end_order_before o p ≡ Ordering.eq → end_order t o p ≡ Ordering.eq
  unfolding end_order_before
  still_alike h = one-node (ap (target t) (compare_exact _ _ (then_eq (compare (last_edge o) (last_edge p)) (lex (lex compare) (sorted_paths o) (sorted_paths p)) h).0)) ∙ h

module _ (t : List ℕ) (goes : ℕ → Option ℕ → Bool) (m : Marking) where
  abbrev os : List Offer
  os = offers t goes m

  in_before : {o : Offer} → In o (ends_before t os) → In o os × (is_end t o ≡ true)
  unfolding ends_before
  in_before k = in_keep (is_end t) os (in_sort end_order_before (keep (is_end t) os) k)

  before_in : {o : Offer} → In o os → is_end t o ≡ true → In o (ends_before t os)
  unfolding ends_before
  before_in k h = sort_in end_order_before (keep (is_end t) os) (keep_in (is_end t) k h)

  before-once : Distinct (ends_before t os)
  unfolding ends_before
  before-once = sort-distinct end_order_before (keep (is_end t) os) (distinct-keep (is_end t) os (distinct-offers t goes m))

  before_rise : Rising end_order_before (ends_before t os)
  unfolding ends_before
  before_rise = sorted_rises end_order_before (ends_before t os)
      (λ o p k l h. alike-offers t goes m o p (in_elem (in_before k).0) (in_elem (in_before l).0) (still_alike t o p h))
      before-once (sort_sorts before_lawful (keep (is_end t) os))

  -- at any one node the ends stand as they did, whatever the marking
  pub order-at-node : (n : ℕ) → at_node t n (ends t os) ≡ at_node t n (ends_before t os)
  order-at-node n =
      rising_unique before_lawful (at_node t n (ends t os)) (at_node t n (ends_before t os))
      (rising_by (end_order t) end_order_before (at_node t n (ends t os)) (λ o p k l h. sym (one-node t o p (at_n k ∙ sym (at_n l))) ∙ h) (rising-keep (end_order t) at_this (ends t os) (ends_rise t goes m)))
      (rising-keep end_order_before at_this (ends_before t os) before_rise)
      (λ o k. let r = in_keep at_this (ends t os) k in let s = in_ends t os r.0 in keep_in at_this (before_in s.0 s.1) r.1)
      (λ o k. let r = in_keep at_this (ends_before t os) k in let s = in_before r.0 in keep_in at_this (ends_in t os s.0 s.1) r.1)
    where
      at_this : Offer → Bool
      at_this o = eqb (target_of t o) n

      at_n : {o : Offer} → In o (at_node t n (ends t os)) → target_of t o ≡ n
      at_n {o} k = eqb-true (target_of t o) n (in_keep at_this (ends t os) k).1

  before-length : length (ends_before t os) ≡ length (ends t os)
  unfolding ends_before
  before-length = sort-length end_order_before (keep (is_end t) os) ∙ sym (ends-length t os)

  pub regrouped : Regrouped t (ends t os) (ends_before t os)
  regrouped = record { once = ends-once t goes m; once' = before-once; at-node = order-at-node }

-- ---- boards
-- a board as it was: its ends in the order of before
abbrev pub before : Board → Board
before d = in_order d (ends_before d.table d.all_offers)

-- what isn't refused with 9
abbrev pub is_choice : Board → List ℕ → Bool
is_choice d ks = rising ks && all (λ k. ltb k (how_many d)) ks

module _ (t b : List ℕ) (w : Terms) where
  sizes-before : (m : Marking) → sizes_fine_by ends_before t (offers t (goes_over w) m) ≡ sizes_fine t (offers t (goes_over w) m)
  unfolding sizes_fine_by sizes_fine
  sizes-before m = rw (before-length t (goes_over w) m)

  -- refused as before, or the same but for the order of ends
  pub board-before : board_before t b w ≡ board t b w >>= (λ d. good (before d))
  unfolding board_before board_by board board_of_by board_of
  board-before = by (table_fine t limits) (marking t b)
    where
      by : (a : Answer (Unit {0})) (o : Option Marking)
          → a >>= (λ u. known 5 o >>= (λ m. board_of_by offers ends_before t m w)) ≡ a >>= (λ u. known 5 o >>= (λ m. board_of t m w)) >>= (λ d. good (before d))
      by (refused n p) o = refl
      by (good u) none = refl
      by (good u) (some m) = rw (sizes-before m) (rows (not m.ended) (guards_fine t w.guards) (bounds_fine t w.bounds) (sizes_fine t (offers t (goes_over w) m)) _)
        where
          rows : (p q r s : Bool) (d : Board)
              → need 6 p >>= (λ u. need 7 q >>= (λ u. need 18 r >>= (λ u. need 8 s >>= (λ u. good (before d)))))
              ≡ need 6 p >>= (λ u. need 7 q >>= (λ u. need 18 r >>= (λ u. need 8 s >>= (λ u. good d)))) >>= (λ d. good (before d))
          rows false q r s d = refl
          rows true false r s d = refl
          rows true true false s d = refl
          rows true true true false d = refl
          rows true true true true d = refl

  module _ (d : Board) (h : board t b w ≡ good d) where
    pub ends_regrouped : Regrouped d.table d.all_ends (before d).all_ends
    ends_regrouped = let f = (board-good t b w d h).facts in rw (f.is-ends, f.is-offers, f.is-table) (regrouped t (goes_over w) d.current)

    -- ---- a set of ends under its numbers of now, c, and of then, c'
    -- every set has both
    pub numbers_then : (c : ℕ) → (c' : ℕ) × (c' < 2 ^ how_many (before d)) × SameEnds d c (before d) c'
    numbers_then = renumbered d (before d).all_ends ends_regrouped

    pub numbers_now : (c' : ℕ) → (c : ℕ) × (c < 2 ^ how_many d) × SameEnds (before d) c' d c
    numbers_now = renumbered (before d) d.all_ends (regrouped_back ends_regrouped)

    module _ (c c' : ℕ) (s : SameEnds d c (before d) c') where
      -- what arrives at a node, in its order
      pub arrivals_stay : (n : ℕ) → arrivals d c n ≡ arrivals (before d) c' n
      arrivals_stay = arrivals-same d (before d).all_ends ends_regrouped c c' s

      pub next_as_before : next d c ≡ next (before d) c'
      next_as_before = next-same d (before d).all_ends ends_regrouped c c' s

    was_board : board_before t b w ≡ good (before d)
    was_board = board-before ∙ ap (λ (a : Answer Board). a >>= (λ x. good (before x))) h

    -- step answers what it answered, or each refuses with 10, at the number of an end
    pub step_as_before : (ks ks' : List ℕ) → is_choice d ks ≡ true → is_choice (before d) ks' ≡ true → SameEnds d (choice_of ks) (before d) (choice_of ks')
        → (step t b w ks ≡ step_before t b w ks') ⊎ ((p : ℕ) × (p' : ℕ) × (step t b w ks ≡ refused 10 p) × (step_before t b w ks' ≡ refused 10 p'))
    unfolding step step_before step_of
    step_as_before ks ks' fine fine' s =
        ⊎_elim
        (λ q. inl (rw (h, was_board, fine, fine') (ap₂ (λ (a : Answer (Unit {0})) (m : Marking). a >>= (λ u. good m) >>= (λ m. good (encode t m))) q (next_as_before (choice_of ks) (choice_of ks') s))))
        (λ q. inr (q.place, q.place', rw (h, fine, q.judged), rw (was_board, fine', q.judged')))
        (judged_same d (before d).all_ends ends_regrouped (choice_of ks) (choice_of ks') s)

  -- ---- 13, and why
  pub pick_13_as_before : (n k p : ℕ) → Pick t b w n (refused k p) → PickBefore t b w n (refused k p)
  unfolding Pick PickBefore
  pick_13_as_before n k p h = subst (λ (r : Answer Board). PickIf r n (refused k p)) (sym board-before) (by (board t b w) refl h)
    where
      by : (r : Answer Board) → board t b w ≡ r → PickIf r n (refused k p) → PickIf (r >>= (λ d. good (before d))) n (refused k p)
      by (refused i j) e q = q
      by (good d) e q = (q.0, q.1, none_for_same d (before d).all_ends (ends_regrouped d e) n q.2)

  pub pick_13_was : (n k p : ℕ) → PickBefore t b w n (refused k p) → Pick t b w n (refused k p)
  unfolding Pick PickBefore
  pick_13_was n k p h = by (board t b w) refl (subst (λ (r : Answer Board). PickIf r n (refused k p)) board-before h)
    where
      by : (r : Answer Board) → board t b w ≡ r → PickIf (r >>= (λ d. good (before d))) n (refused k p) → PickIf r n (refused k p)
      by (refused i j) e q = q
      by (good d) e q = (q.0, q.1, none_for_same (before d) d.all_ends (regrouped_back (ends_regrouped d e)) n q.2)

  pub why_as_before : (n : ℕ) (a : Answer (List ℕ)) → Why t b w n a → WhyBefore t b w n a
  unfolding Why WhyBefore
  why_as_before n a h = subst (λ (r : Answer Board). WhyIf r n a) (sym board-before) (by (board t b w) refl h)
    where
      by : (r : Answer Board) → board t b w ≡ r → WhyIf r n a → WhyIf (r >>= (λ d. good (before d))) n a
      by (refused i j) e q = q
      by (good d) e q = (q.0, reason_same d (before d).all_ends (ends_regrouped d e) n q.0 q.1, q.2)
