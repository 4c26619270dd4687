-- What step writes is a good marking of the table, live or ended. Assumes nothing.
use mathlib.Core.Path.{◌≡◌, refl, sym, ap, subst, ◌∙◌}
use Prim.Native.Nat.{ℕ, zero, suc, ◌+◌, ◌^◌, ◌≤◌, ◌<◌}
use native.Mathlib.Omega.{arith}
use mathlib.Core.Bool.{Bool, true, false, not, ◌&&◌, ◌||◌, cond}
use mathlib.Core.Logic.{◌⊎◌, inl, inr, ⊎_elim}
use mathlib.Core.List.{List, [], ◌∷◌, ◌++◌}
use mathlib.Core.Option.{Option, none, some}
use lib.Dec.{leb, ltb, eqb}
use lib.ListN.{length, drop, length-append}
use borrow.Author.Tests.{leb-true, le-leb, ltb-true, lt-ltb, eqb-true, eq-eqb, not-true, not-false}
use Rattle.paper.specs.Lists.{below, all, any, keep, gather, count, within, ◌⇒◌}
use Rattle.paper.specs.Limits.{limits}
use Rattle.paper.specs.Answers.{good, judged_by}
use Rattle.paper.specs.Table.{nodes, edges, kind, owner, lower, upper, source, target, into, out, inputs, is_object, is_control, is_action, is_input, is_buffer, is_outgoing, is_pin, is_object_node, is_activity_final, one_of, may_leave, may_enter, table_fine}
use Rattle.paper.specs.Marking.{Marking, Field, stockOf, runsOf, tokensOf, layout, counted, pin_fine, cleared, marking_fine, ended_of, has_stock, has_runs, has_tokens, Good}
use Rattle.paper.specs.Offers.{Offer, first, last_edge, value, is_some, or_else, firsts, offers_on, offers, target_of, belongs, ends, Terms, goes_over, guards_fine, bounds_fine, sizes_fine}
use Rattle.paper.specs.Choices.{Board, board_of, how_many, taken_ends, arrivals, rule1, rule2, rule3, action_agrees, agrees, rules, spent, spend, gain, close, next}
use Rattle.paper.specs.Operations.{rising, choice_of, step_of}
use Rattle.paper.proofs.Bools.{never, and-true, and_both, or-true, or_right, if_true, either_way}
use Rattle.paper.proofs.Lists.{all-below, below_all, lowest-is-none}
use Rattle.paper.proofs.Lengths.{length-gather_le}
use Rattle.paper.proofs.Ladders.{same_good, row-good, need-good, refuse_good}
use Rattle.paper.proofs.Members.{In, here, later, in_keep, keep_in, in_keep-below, below_in, any_in, in_any, none_any, all_in, in_all, snoc_some}
use Rattle.paper.proofs.Bounds.{most_if, under_nil, under_cons, under_append, under-gather, under_drop}
use Rattle.paper.proofs.Bytes.{Words}
use Rattle.paper.proofs.Taken.{taken_in}
use Rattle.paper.proofs.Ends.{in_ends}
use Rattle.paper.proofs.Origins.{Handed, starts, extends, joins, Way, alone, beside, on_none, on_view, in_offers}
use Rattle.paper.proofs.OneMarking.{good_elsewhere}
use Rattle.paper.proofs.Sameness.{in_elem, on-last}
use Rattle.paper.proofs.Shapes.{may-enter}
use Rattle.paper.proofs.Tables.{GoodTable, table-good}
use Rattle.paper.proofs.Values.{one-is, offer-value}

-- ---- lists
nothing_in : {A : Type 0} (xs : List A) → ((x : A) → In x xs → ⊥) → xs ≡ []
nothing_in [] h = refl
nothing_in (x ∷ xs) h = absurd (h x (here refl))

pub shorter : (s : List ℕ) → length (drop 1 s) ≤ length s
shorter [] = omega arith
shorter (x ∷ xs) = omega arith

-- the values of an option: none or one
abbrev pub single : Option ℕ → List ℕ
single none = []
single (some v) = v ∷ []

pub single_few : (v : Option ℕ) → length (single v) ≤ 1
single_few none = omega arith
single_few (some v) = omega arith

singles_all : (xs : List Offer) → ((o : Offer) → In o xs → is_some (value o) ≡ true) → length (gather (λ o. single (value o)) xs) ≡ length xs
singles_all [] h = refl
singles_all (x ∷ xs) h = by (value x) (h x (here refl)) (singles_all xs (λ o k. h o (later k)))
  where
    by : (v : Option ℕ) → is_some v ≡ true → length (gather (λ o. single (value o)) xs) ≡ length xs → length (single v ++ gather (λ o. single (value o)) xs) ≡ suc (length xs)
    by none e h = never false e refl
    by (some v) e h = ap suc h

-- ---- kinds
-- what enters an object node is an object, and the node an input pin, a buffer or an outgoing parameter
object_enter : (b : Bool) (k : ℕ) → may_enter b k ≡ true → is_object_node k ≡ true → (b ≡ true) × ((k ≡ 3) ⊎ (is_buffer k || is_outgoing k ≡ true))
object_enter b k h o =
    let s = and-true (leb 3 k) _ o in
    let lo : 3 ≤ k = leb-true 3 k s.0 in
    let hi : k ≤ 7 = leb-true k 7 s.1 in
    ⊎_elim (λ a. let u : 8 ≤ k = leb-true 8 k (and-true (leb 8 k) _ a).0 in let z : ⊥ = omega arith in absurd z)
    (λ a. by b a lo)
    (or-true (within 8 13 k) _ (sym (may-enter b k) ∙ h))
  where
    by : (b : Bool) → cond b (one_of (3 ∷ 5 ∷ 7 ∷ []) k) (eqb k 2) ≡ true → 3 ≤ k → (b ≡ true) × ((k ≡ 3) ⊎ (is_buffer k || is_outgoing k ≡ true))
    by true a l = (refl, ⊎_elim (λ q. inl (eqb-true k 3 q)) (λ q. inr (last (is_buffer k) (is_outgoing k) q)) (or-true (eqb k 3) _ a))
      where
        last : (x y : Bool) → x || (y || false) ≡ true → x || y ≡ true
        last true y e = refl
        last false true e = refl
        last false false e = e
    by false a l = let q : k ≡ 2 = eqb-true k 2 a in let z : ⊥ = omega arith in absurd z

-- nothing leaves an input pin
no_leave : (b : Bool) → may_leave b 3 ≡ true → ⊥
no_leave true h = never (may_leave true 3) h refl
no_leave false h = never (may_leave false 3) h refl

-- ---- the values of offers are values of the marking
abbrev Small : Option ℕ → Type 0
Small none = Unit {0}
Small (some v) = v < 2 ^ 32

module _ (t : List ℕ) (goes : ℕ → Option ℕ → Bool) (m : Marking) (ok : Good t m) where
  first_small : (e : ℕ) {v : Option ℕ} → firsts t m e ≡ first e v ∷ [] → Small v
  unfolding firsts
  first_small e {v} f = by (counted t e) refl (leb 1 (m.tokens e)) refl (is_object_node (kind t (source t e))) refl (m.stock (source t e)) refl
    where
      by : (b : Bool) → counted t e ≡ b → (c : Bool) → leb 1 (m.tokens e) ≡ c → (d : Bool) → is_object_node (kind t (source t e)) ≡ d → (vs : List ℕ) → m.stock (source t e) ≡ vs → Small v
      by true p true q d s vs r = let h : first e none ∷ [] ≡ first e v ∷ [] = rw (p, q) at f in subst Small (one-is h) tt
      by true p false q d s vs r = let h : [] ≡ first e v ∷ [] = rw (p, q) at f in snoc_some [] (first e v) h
      by false p c q false s vs r = let h : [] ≡ first e v ∷ [] = rw (p, s) at f in snoc_some [] (first e v) h
      by false p c q true s [] r = let h : [] ≡ first e v ∷ [] = rw (p, s, r) at f in snoc_some [] (first e v) h
      by false p c q true s (x ∷ xs) r =
          let h : first e (some x) ∷ [] ≡ first e v ∷ [] = rw (p, s, r) at f in
          let z : x < 2 ^ 32 = rw r at (ok.values (source t e) 0) in
          subst Small (one-is h) z

  way_small : (on : ℕ → List Offer) → ((j : ℕ) (o : Offer) → In o (on j) → Small (value o)) → {js : List ℕ} {w : Offer} → Way t on js w → Small (value w)
  unfolding value
  way_small on h (alone {j = j} {o = o} k) = h j o k
  way_small on h (beside {j = j} {o = o} {w = w} k r c) = by (value o) (value w) (h j o k) (way_small on h r)
    where
      by : (v w : Option ℕ) → Small v → Small w → Small (or_else v w)
      by none w a b = b
      by (some v) w a b = a

  small-on : (n e : ℕ) {o : Offer} → In o (offers_on t goes m n e) → Small (value o)
  unfolding value
  small-on zero e k = absurd (on_none t goes m e k)
  small-on (suc n) e k = by (on_view t goes m n e k) (λ j o b. small-on n j b)
    where
      by : {o : Offer} → Handed t m (offers_on t goes m n) e o → ((j : ℕ) (o : Offer) → In o (offers_on t goes m n j) → Small (value o)) → Small (value o)
      by (starts c f) ih = first_small e f
      by (extends {j = j} {o = o} c d i u) ih = ih j o u
      by (joins {w = w} c d v) ih = way_small (offers_on t goes m n) ih v

-- ---- a marking ended
ended-good : (t : List ℕ) (m : Marking) → Good t m → Good t (ended_of t m)
unfolding ended_of marking_fine pin_fine cleared
ended-good t m ok = record {
  stocks = λ i. either_way (λ l. length l ≤ cond (has_stock t i) (upper t i) 0) (is_outgoing (kind t i)) (m.stock i) [] (ok.stocks i) (omega arith);
  values = λ i. either_way Words (is_outgoing (kind t i)) (m.stock i) [] (ok.values i) (under_nil (2 ^ 32) (omega arith));
  running = λ i h. never false h refl;
  counts = λ j. omega arith;
  fine = and_both (all (pin_fine t (ended_of t m)) (below (nodes t))) _ (below_all (pin_fine t (ended_of t m)) (nodes t) pins) (in_all (cleared t (ended_of t m)) (layout t) clear);
}
  where
    pins : (p : ℕ) → p < nodes t → pin_fine t (ended_of t m) p ≡ true
    pins p l = by (is_input (kind t p)) refl
      where
        by : (b : Bool) → is_input (kind t p) ≡ b → (b ⇒ eqb (length (cond (is_outgoing (kind t p)) (m.stock p) [])) 0) ≡ true
        by true e = rw (eqb-true (kind t p) 3 e)
        by false e = refl

    clear : (f : Field) → In f (layout t) → cleared t (ended_of t m) f ≡ true
    clear (stockOf i) k = by (is_outgoing (kind t i))
      where
        by : (b : Bool) → b || eqb (length (cond b (m.stock i) [])) 0 ≡ true
        by true = refl
        by false = refl
    clear (runsOf i) k = refl
    clear (tokensOf j) k = refl

-- ---- the step
module _ (t : List ℕ) (w : Terms) (m : Marking) (fine : table_fine t limits ≡ good tt) (ok : Good t m) (live : m.ended ≡ false) (c : ℕ) where
  abbrev on : Board
  on = record { table = t; current = m; all_offers = offers t (goes_over w) m; all_ends = ends t (offers t (goes_over w) m) }

  whole : GoodTable t limits
  whole = table-good t limits fine

  -- the taken ends are offers of the table
  taken-offer : {o : Offer} → In o (taken_ends on c) → In o (offers t (goes_over w) m)
  taken-offer k = (in_ends t (offers t (goes_over w) m) (taken_in on c k)).0

  taken-edge : {o : Offer} → In o (taken_ends on c) → last_edge o < edges t
  taken-edge k =
      let r = in_offers t (goes_over w) m (taken-offer k) in
      omega (arith, r.1, on-last t (goes_over w) m limits.longest_path r.0 r.2)

  taken-small : {o : Offer} → In o (taken_ends on c) → Small (value o)
  taken-small k =
      let r = in_offers t (goes_over w) m (taken-offer k) in
      small-on t (goes_over w) m ok limits.longest_path r.0 r.2

  arrived : (i : ℕ) {o : Offer} → In o (arrivals on c i) → In o (taken_ends on c) × (target t (last_edge o) ≡ i)
  unfolding arrivals
  arrived i k = let r = in_keep (λ o. eqb (target_of t o) i) (taken_ends on c) k in (r.0, eqb-true _ _ r.1)

  -- where they arrive is a node that the edge may enter
  enters : (i : ℕ) {o : Offer} → In o (arrivals on c i) → (i < nodes t) × (may_enter (is_object t (last_edge o)) (kind t i) ≡ true)
  enters i {o} k =
      let r = arrived i k in
      let f = whole.edge (last_edge o) (taken-edge r.0) in
      (subst (λ n. n < nodes t) r.1 f.target_fits, subst (λ n. may_enter (is_object t (last_edge o)) (kind t n) ≡ true) r.1 f.may-enter)

  with_value : (i : ℕ) → is_object_node (kind t i) ≡ true → (o : Offer) → In o (arrivals on c i) → is_some (value o) ≡ true
  with_value i h o k = offer-value t (goes_over w) m fine o (in_elem (taken-offer (arrived i k).0)) ∙ (object_enter (is_object t (last_edge o)) (kind t i) (enters i k).1 h).0

  -- ---- what comes and what is left
  abbrev came : ℕ → List ℕ
  came i = gather (λ o. single (value o)) (arrivals on c i)

  came_few : (i : ℕ) → length (came i) ≤ length (arrivals on c i)
  came_few i = omega (arith, length-gather_le (λ o. single (value o)) 1 (λ o. single_few (value o)) (arrivals on c i))

  came_words : (i : ℕ) → Words (came i)
  came_words i = under-gather (2 ^ 32) (λ o. single (value o)) (arrivals on c i) (omega arith) (λ o k. by (value o) (taken-small (arrived i k).0))
    where
      by : (v : Option ℕ) → Small v → Words (single v)
      by none h = under_nil (2 ^ 32) (omega arith)
      by (some v) h = under_cons (2 ^ 32) v [] h (under_nil (2 ^ 32) (omega arith))

  abbrev left : ℕ → List ℕ
  left i = cond (any (spent on c) (out t i)) (drop 1 (m.stock i)) (m.stock i)

  left-few : (i : ℕ) → length (left i) ≤ length (m.stock i)
  left-few i = either_way (λ l. length l ≤ length (m.stock i)) (any (spent on c) (out t i)) (drop 1 (m.stock i)) (m.stock i) (shorter (m.stock i)) (omega arith)

  left-words : (i : ℕ) → Words (left i)
  left-words i = either_way Words (any (spent on c) (out t i)) (drop 1 (m.stock i)) (m.stock i) (under_drop (2 ^ 32) (m.stock i) 1 (ok.values i)) (ok.values i)

  -- an input pin is not spent from
  pin_left : (p : ℕ) → kind t p ≡ 3 → left p ≡ m.stock p
  unfolding out
  pin_left p k = rw (none_any (spent on c) (keep (λ j. eqb (source t j) p) (below (edges t))) (λ e i. absurd (none e i)))
    where
      none : (e : ℕ) → In e (keep (λ j. eqb (source t j) p) (below (edges t))) → ⊥
      none e i =
          let r = in_keep-below (λ j. eqb (source t j) p) (edges t) i in
          let q : kind t (source t e) ≡ 3 = ap (kind t) (eqb-true (source t e) p r.1) ∙ k in
          no_leave (is_object t e) (subst (λ n. may_leave (is_object t e) n ≡ true) q (whole.edge e r.0).may_leave_is)

  -- ---- pins and their actions
  action_of : (p : ℕ) → p < nodes t → kind t p ≡ 3 → (owner t p < nodes t) × (kind t (owner t p) ≡ 2)
  action_of p l k =
      let r = and-true (ltb (owner t p) (nodes t)) _ (rw k at (whole.node p l).owner-fine) in
      (ltb-true _ _ r.0, eqb-true _ _ r.1)

  pin_in : (p : ℕ) → p < nodes t → kind t p ≡ 3 → In p (inputs t (owner t p))
  unfolding inputs
  pin_in p l k =
      keep_in (λ q. is_input (kind t q) && eqb (owner t q) (owner t p)) (below_in (nodes t) l)
      (and_both (is_input (kind t p)) _ (eq-eqb (kind t p) 3 k) (eq-eqb (owner t p) (owner t p) refl))

  pin_served : (p : ℕ) {o : Offer} → kind t p ≡ 3 → In o (arrivals on c p) → any (belongs t (owner t p)) (taken_ends on c) ≡ true
  unfolding belongs
  pin_served p {o} k i =
      let r = arrived p i in
      in_any (belongs t (owner t p)) r.0 (or_right (eqb (target t (last_edge o)) (owner t p)) _ (rw (r.1, k) (eq-eqb (owner t p) (owner t p) refl)))

  pin_was : (p : ℕ) → p < nodes t → pin_fine t m p ≡ true
  unfolding marking_fine
  pin_was p l = all-below (pin_fine t m) (nodes t) (and-true (all (pin_fine t m) (below (nodes t))) _ ok.fine).0 p l

  idle_empty : (p : ℕ) → p < nodes t → kind t p ≡ 3 → m.runs (owner t p) ≡ false → length (m.stock p) ≡ 0
  unfolding pin_fine
  idle_empty p l k r = eqb-true _ _ (rw (k, r) at (pin_was p l))

  busy_enough : (p : ℕ) → p < nodes t → kind t p ≡ 3 → m.runs (owner t p) ≡ true → lower t p ≤ length (m.stock p)
  unfolding pin_fine
  busy_enough p l k r = leb-true _ _ (and-true (leb (lower t p) (length (m.stock p))) _ (rw (k, r) at (pin_was p l))).0

  -- ---- rule 3
  module _ (h : judged_by (rules on) c ≡ good tt) where
    agrees-all : (i : ℕ) → i < nodes t → agrees on c i ≡ true
    unfolding rule3
    agrees-all i l =
        let a = refuse_good 10 (rule1 on c) _ tt h in
        let b = refuse_good 11 (rule2 on c) _ tt a.1 in
        let d = refuse_good 12 (rule3 on c) _ tt b.1 in
        not-false (agrees on c i) (lowest-is-none (λ n. not (agrees on c n)) (nodes t) d.0 i l)

    store_fits : (i : ℕ) → i < nodes t → is_buffer (kind t i) || is_outgoing (kind t i) ≡ true → length (m.stock i) + length (arrivals on c i) ≤ upper t i
    unfolding agrees
    store_fits i l k =
        let r = and-true (is_action (kind t i) && any (belongs t i) (taken_ends on c) ⇒ action_agrees on c i) _ (agrees-all i l) in
        leb-true _ _ (if_true (is_buffer (kind t i) || is_outgoing (kind t i)) _ r.1 k)

    fits_action : (a : ℕ) → a < nodes t → kind t a ≡ 2 → any (belongs t a) (taken_ends on c) ≡ true
        → (m.runs a ≡ false) × ((p : ℕ) → In p (inputs t a) → (lower t p ≤ length (arrivals on c p)) × (length (arrivals on c p) ≤ upper t p))
    unfolding agrees action_agrees
    fits_action a l k s =
        let r = and-true (is_action (kind t a) && any (belongs t a) (taken_ends on c) ⇒ action_agrees on c a) _ (agrees-all a l) in
        let q = if_true (is_action (kind t a) && any (belongs t a) (taken_ends on c)) _ r.0 (and_both (is_action (kind t a)) _ (eq-eqb (kind t a) 2 k) s) in
        let u = and-true (not (m.runs a) && all (λ e. eqb (count (λ o. eqb (last_edge o) e) (taken_ends on c)) 1) (keep (is_control t) (into t a))) _ q in
        let v = and-true (not (m.runs a)) _ u.0 in
        (not-true (m.runs a) v.0, λ p i. within-is p (all_in (λ p. within (lower t p) (upper t p) (length (arrivals on c p))) u.1 i))
      where
        within-is : (p : ℕ) → within (lower t p) (upper t p) (length (arrivals on c p)) ≡ true → (lower t p ≤ length (arrivals on c p)) × (length (arrivals on c p) ≤ upper t p)
        within-is p w = let z = and-true (leb (lower t p) (length (arrivals on c p))) _ w in (leb-true _ _ z.0, leb-true _ _ z.1)

    -- no stock passes upper
    stock-fits : (i : ℕ) → i < nodes t → is_object_node (kind t i) ≡ true → length (left i) + length (came i) ≤ upper t i
    stock-fits i l o = by (arrivals on c i) refl
      where
        was : length (m.stock i) ≤ upper t i
        was = rw (lt-ltb i (nodes t) l, o) at (ok.stocks i)

        by : (xs : List Offer) → arrivals on c i ≡ xs → length (left i) + length (came i) ≤ upper t i
        by [] e = let z : length (arrivals on c i) ≡ 0 = ap length e in omega (arith, left-few i, came_few i, was)
        by (x ∷ xs) e =
            let k : In x (arrivals on c i) = subst (λ (ys : List Offer). In x ys) (sym e) (here refl) in
            ⊎_elim (λ (q : kind t i ≡ 3).
            let a = action_of i l q in
            let f = fits_action (owner t i) a.0 a.1 (pin_served i q k) in
            omega (arith, left-few i, came_few i, idle_empty i l q f.0, (f.1 i (pin_in i l q)).1))
            (λ q. omega (arith, left-few i, came_few i, store_fits i l q))
            (object_enter (is_object t (last_edge x)) (kind t i) (enters i k).1 o).1

    -- ---- the marking that has moved
    abbrev moved : Marking
    moved = gain on c (spend on c m)

    moved-stocks : (i : ℕ) → length (moved.stock i) ≤ cond (has_stock t i) (upper t i) 0
    unfolding gain spend
    moved-stocks i = most_if (has_stock t i) _ (upper t i) (λ q. full (and-true (ltb i (nodes t)) _ q)) (λ q. empty (is_object_node (kind t i)) refl q)
      where
        full : (ltb i (nodes t) ≡ true) × (is_object_node (kind t i) ≡ true) → length (left i ++ cond (is_object_node (kind t i)) (came i) []) ≤ upper t i
        full q = rw q.1 (omega (arith, length-append (left i) (came i), stock-fits i (ltb-true _ _ q.0) q.1))

        empty : (b : Bool) → is_object_node (kind t i) ≡ b → has_stock t i ≡ false → length (left i ++ cond b (came i) []) ≡ 0
        empty true e q =
            let none = nothing_in (arrivals on c i) (λ o k. never (has_stock t i) (and_both (ltb i (nodes t)) _ (lt-ltb i (nodes t) (enters i k).0) e) q) in
            let z : length (arrivals on c i) ≡ 0 = ap length none in
            let s : length (m.stock i) ≡ 0 = sym (ap length (good_elsewhere t m ok (stockOf i) q)) in
            omega (arith, length-append (left i) (came i), left-few i, came_few i)
        empty false e q =
            let s : length (m.stock i) ≡ 0 = sym (ap length (good_elsewhere t m ok (stockOf i) q)) in
            omega (arith, length-append (left i) [], left-few i)

    moved-values : (i : ℕ) → Words (moved.stock i)
    unfolding gain spend
    moved-values i =
        under_append (2 ^ 32) (left i) (cond (is_object_node (kind t i)) (came i) []) (left-words i)
        (either_way Words (is_object_node (kind t i)) (came i) [] (came_words i) (under_nil (2 ^ 32) (omega arith)))

    moved-runs : (i : ℕ) → moved.runs i ≡ true → has_runs t i ≡ true
    unfolding gain spend belongs
    moved-runs i e =
        ⊎_elim (λ q. ok.running i q)
        (λ q. let r = and-true (is_action (kind t i)) _ q in
        let s = any_in (belongs t i) (taken_ends on c) r.1 in
        and_both (ltb i (nodes t)) _ (lt-ltb i (nodes t) (node s.0 (taken-edge s.1) s.2)) r.0)
        (or-true (m.runs i) _ e)
      where
        node : (o : Offer) → last_edge o < edges t → eqb (target t (last_edge o)) i || (is_pin (kind t (target t (last_edge o))) && eqb (owner t (target t (last_edge o))) i) ≡ true → i < nodes t
        node o l q =
            let f = whole.edge (last_edge o) l in
            ⊎_elim (λ a. subst (λ n. n < nodes t) (eqb-true (target t (last_edge o)) i a) f.target_fits)
            (λ a. let r = and-true (is_pin (kind t (target t (last_edge o)))) _ a in
            let w = rw r.0 at (whole.node (target t (last_edge o)) f.target_fits).owner-fine in
            subst (λ n. n < nodes t) (eqb-true (owner t (target t (last_edge o))) i r.1) (ltb-true _ _ (and-true (ltb (owner t (target t (last_edge o))) (nodes t)) _ w).0))
            (or-true (eqb (target t (last_edge o)) i) _ q)

    moved_pins : (p : ℕ) → p < nodes t → pin_fine t moved p ≡ true
    unfolding gain spend pin_fine
    moved_pins p l = by (is_input (kind t p)) refl
      where
        amount : kind t p ≡ 3 → length (left p ++ came p) ≡ length (m.stock p) + length (arrivals on c p)
        amount k =
            let o : is_object_node (kind t p) ≡ true = rw k in
            omega (arith, length-append (left p) (came p), ap length (pin_left p k), singles_all (arrivals on c p) (with_value p o))

        -- no stock exceeds upper
        holds : kind t p ≡ 3 → lower t p ≤ length (left p ++ came p) → within (lower t p) (upper t p) (length (left p ++ came p)) ≡ true
        holds k h =
            let o : is_object_node (kind t p) ≡ true = rw k in
            let u : length (left p ++ came p) ≤ upper t p = omega (arith, length-append (left p) (came p), stock-fits p l o) in
            and_both (leb (lower t p) (length (left p ++ came p))) _ (le-leb (lower t p) _ h) (le-leb _ (upper t p) u)

        pin : kind t p ≡ 3 → (r : Bool) → m.runs (owner t p) ≡ r → (s : Bool) → any (belongs t (owner t p)) (taken_ends on c) ≡ s
            → cond (r || s) (within (lower t p) (upper t p) (length (left p ++ came p))) (eqb (length (left p ++ came p)) 0) ≡ true
        pin k true e s f = holds k (omega (arith, amount k, busy_enough p l k e))
        pin k false e true f =
            let a = action_of p l k in
            holds k (omega (arith, amount k, ((fits_action (owner t p) a.0 a.1 f).1 p (pin_in p l k)).0))
        pin k false e false f =
            let none = nothing_in (arrivals on c p) (λ o i. never (any (belongs t (owner t p)) (taken_ends on c)) (pin_served p k i) f) in
            let z : length (arrivals on c p) ≡ 0 = ap length none in
            eq-eqb (length (left p ++ came p)) 0 (omega (arith, amount k, idle_empty p l k e))

        by : (b : Bool) → is_input (kind t p) ≡ b
            → (b ⇒ cond (m.runs (owner t p) || (is_action (kind t (owner t p)) && any (belongs t (owner t p)) (taken_ends on c)))
            (within (lower t p) (upper t p) (length (left p ++ cond (is_object_node (kind t p)) (came p) []))) (eqb (length (left p ++ cond (is_object_node (kind t p)) (came p) [])) 0)) ≡ true
        by true e =
            let k = eqb-true (kind t p) 3 e in
            rw (k, (action_of p l k).1) (pin k (m.runs (owner t p)) refl (any (belongs t (owner t p)) (taken_ends on c)) refl)
        by false e = refl

    moved-good : Good t moved
    unfolding marking_fine gain spend
    moved-good = record {
      stocks = moved-stocks;
      values = moved-values;
      running = moved-runs;
      counts = λ e. either_way (λ k. k ≤ cond (has_tokens t e) 255 0) (spent on c e) 0 (m.tokens e) (omega arith) (ok.counts e);
      fine = rw (below_all (pin_fine t moved) (nodes t) moved_pins, live);
    }

    next-good : Good t (next on c)
    unfolding next close
    next-good = either_way (Good t) (any (λ o. is_activity_final (kind t (target_of t o))) (taken_ends on c)) (ended_of t moved) moved (ended-good t moved moved-good) moved-good

-- a step on a good marking makes a good one
pub step-good : (t : List ℕ) (w : Terms) (m : Marking) → table_fine t limits ≡ good tt → Good t m → (d : Board) → board_of t m w ≡ good d
    → (ks : List ℕ) (m' : Marking) → step_of d ks ≡ good m' → Good t m'
unfolding board_of step_of
step-good t w m fine ok d h ks m' s =
    let r6 = need-good 6 (not m.ended) _ d h in
    let r7 = need-good 7 (guards_fine t w.guards) _ d r6.1 in
    let r18 = need-good 18 (bounds_fine t w.bounds) _ d r7.1 in
    let r8 = need-good 8 (sizes_fine t (offers t (goes_over w) m)) _ d r18.1 in
    let e = same_good r8.1 in
    let r9 = need-good 9 (rising ks && all (λ k. ltb k (how_many d)) ks) _ m' s in
    let r12 = row-good (judged_by (rules d) (choice_of ks)) _ m' r9.1 in
    let n : Good t (next d (choice_of ks)) =
    subst (λ (x : Board). judged_by (rules x) (choice_of ks) ≡ good tt → Good t (next x (choice_of ks))) e (next-good t w m fine ok (not-true m.ended r6.0) (choice_of ks)) r12.1 in
    subst (Good t) (same_good r12.2) n
