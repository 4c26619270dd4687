-- What start and finish write is a good, live marking of the table. Assumes nothing.
use mathlib.Core.Path.{◌≡◌, refl, sym, ap}
use Prim.Native.Nat.{ℕ, suc, ◌^◌, ◌≤◌, ◌<◌}
use native.Mathlib.Omega.{arith}
use mathlib.Core.Bool.{Bool, true, false, not, ◌&&◌, cond}
use mathlib.Core.List.{List, [], ◌∷◌, ◌++◌, append-nil}
use mathlib.Core.Option.{some}
use lib.Dec.{leb, ltb, eqb}
use lib.ListN.{length}
use borrow.Author.Tests.{leb-true, ltb-true, lt-ltb, eqb-true, ne_eqb}
use Rattle.paper.specs.Lists.{below, all, keep, within, ◌⇒◌}
use Rattle.paper.specs.Answers.{good}
use Rattle.paper.specs.Limits.{limits}
use Rattle.paper.specs.Bytes.{values_read, each_read, ◌>>=◌ as ◌then◌, done}
use Rattle.paper.specs.Table.{nodes, edges, kind, owner, upper, lower, source, outputs, is_initial, is_action, is_input, is_output, is_incoming, is_object_node}
use Rattle.paper.specs.Marking.{Marking, stockOf, tokensOf, blank, pin_fine, marking_fine, has_stock, has_runs, has_tokens, Good}
use Rattle.paper.specs.Operations.{value_lists, list_for, given, room_in, start_of, idled, finish_of}
use Rattle.paper.proofs.Bools.{never, and-true, either_way}
use Rattle.paper.proofs.Lists.{all-below, below_all}
use Rattle.paper.proofs.Ladders.{same_good, need-good, known-good}
use Rattle.paper.proofs.Members.{In, here, later, in_keep-below}
use Rattle.paper.proofs.Bounds.{most_if, under_nil, under_append}
use Rattle.paper.proofs.Bytes.{Bytes, Words, went_on, same_read, whole_is, values-are}
use Rattle.paper.proofs.OneMarking.{good_elsewhere}

-- ---- the lists that were read
lists-words : (most : ℕ) (ps b : List ℕ) (vss : List (List ℕ)) (rest : List ℕ) → Bytes b → each_read (λ p. values_read most) ps b ≡ some (vss, rest) → (n : ℕ) → Words (list_for n ps vss)
lists-words most [] b vss rest u h n = under_nil (2 ^ 32) (omega arith)
lists-words most (p ∷ ps) b vss rest u h n =
    let f = went_on (values_read most b) (λ x. each_read (λ p. values_read most) ps then (λ xs. done (x ∷ xs))) (vss, rest) h in
    let v = values-are most b f.0.0 f.0.1 u f.1 in
    let g = went_on (each_read (λ p. values_read most) ps f.0.1) (λ xs. done (f.0.0 ∷ xs)) (vss, rest) f.2 in
    let e = same_read g.2 in
    let more = lists-words most ps f.0.1 g.0.0 g.0.1 v.stand.left g.1 n in
    rw (← e.0) (either_way Words (eqb n p) f.0.0 (list_for n ps g.0.0) v.small more)

-- a node that isn't listed gets nothing
pub not_listed : (n : ℕ) (ps : List ℕ) (vss : List (List ℕ)) → (In n ps → ⊥) → list_for n ps vss ≡ []
not_listed n [] vss h = refl
not_listed n (p ∷ ps) [] h = refl
not_listed n (p ∷ ps) (vs ∷ vss) h =
    rw (ne_eqb n p (λ e. h (here e))) (not_listed n ps vss (λ m. h (later m)))

-- ---- a marking that is given more
-- what start and finish give to: nothing off the layout, pins as they should be, live
pub record Ready (t : List ℕ) (m : Marking) : Type 0 where
  pub live : m.ended ≡ false
  pub no_stock : (i : ℕ) → has_stock t i ≡ false → m.stock i ≡ []
  pub values : (i : ℕ) → Words (m.stock i)
  pub running : (i : ℕ) → m.runs i ≡ true → has_runs t i ≡ true
  pub no_count : (j : ℕ) → has_tokens t j ≡ false → m.tokens j ≡ 0
  pub pins : (p : ℕ) → p < nodes t → pin_fine t m p ≡ true

-- and what is given: lists for object nodes that are no input pins, and tokens for edges with a count
pub record Gift (t : List ℕ) (gains : ℕ → Bool) (ps : List ℕ) (vss : List (List ℕ)) : Type 0 where
  pub words : (n : ℕ) → Words (list_for n ps vss)
  pub stocks : (n : ℕ) → In n ps → has_stock t n ≡ true
  pub no_inputs : (n : ℕ) → In n ps → is_input (kind t n) ≡ false
  pub counts : (e : ℕ) → gains e ≡ true → has_tokens t e ≡ true

module _ (t : List ℕ) (gains : ℕ → Bool) (ps : List ℕ) (vss : List (List ℕ)) (m : Marking) (b : Ready t m) (g : Gift t gains ps vss) where
  abbrev m' : Marking
  m' = given gains ps vss m

  unlisted : (i : ℕ) → has_stock t i ≡ false → m.stock i ++ list_for i ps vss ≡ []
  unlisted i h = rw (b.no_stock i h) (not_listed i ps vss (λ k. never (has_stock t i) (g.stocks i k) h))

  gained : (e : ℕ) → has_tokens t e ≡ false → cond (gains e) (suc (m.tokens e)) (m.tokens e) ≡ 0
  gained e h = by (gains e) refl
    where
      by : (c : Bool) → gains e ≡ c → cond c (suc (m.tokens e)) (m.tokens e) ≡ 0
      by true q = never (has_tokens t e) (g.counts e q) h
      by false q = b.no_count e h

  pin_same : (p : ℕ) → p < nodes t → pin_fine t m' p ≡ true
  unfolding pin_fine given
  pin_same p l = by (is_input (kind t p)) refl (b.pins p l)
    where
      by : (c : Bool) → is_input (kind t p) ≡ c
          → (c ⇒ cond (m.runs (owner t p)) (within (lower t p) (upper t p) (length (m.stock p))) (eqb (length (m.stock p)) 0)) ≡ true
          → (c ⇒ cond (m.runs (owner t p)) (within (lower t p) (upper t p) (length (m.stock p ++ list_for p ps vss))) (eqb (length (m.stock p ++ list_for p ps vss)) 0)) ≡ true
      by true e h = rw (not_listed p ps vss (λ k. never (is_input (kind t p)) e (g.no_inputs p k)), append-nil) h
      by false e h = refl

  pub given-good : room_in t m' ≡ true → Good t m' × (m'.ended ≡ false)
  unfolding room_in given marking_fine
  given-good h =
      let r = and-true (all (λ n. leb (length (m.stock n ++ list_for n ps vss)) (upper t n)) (below (nodes t))) _ h in
      let s : (i : ℕ) → has_stock t i ≡ true → length (m.stock i ++ list_for i ps vss) ≤ upper t i
      = λ i k. leb-true _ _ (all-below _ (nodes t) r.0 i (ltb-true _ _ (and-true (ltb i (nodes t)) _ k).0)) in
      let c : (e : ℕ) → has_tokens t e ≡ true → cond (gains e) (suc (m.tokens e)) (m.tokens e) ≤ 255
      = λ e k. leb-true _ _ (all-below _ (edges t) r.1 e (ltb-true _ _ (and-true (ltb e (edges t)) _ k).0)) in (
        record {
          stocks = λ i. most_if (has_stock t i) _ (upper t i) (s i) (λ k. ap length (unlisted i k));
          values = λ i. under_append (2 ^ 32) (m.stock i) (list_for i ps vss) (b.values i) (g.words i);
          running = b.running;
          counts = λ e. most_if (has_tokens t e) _ 255 (c e) (gained e);
          fine = rw (below_all (pin_fine t m') (nodes t) pin_same, b.live);
        },
        b.live,
      )

-- ---- start
module _ (t : List ℕ) where
  blank_ready : Ready t (blank false)
  unfolding pin_fine
  blank_ready = record {
    live = refl;
    no_stock = λ i h. refl;
    values = λ i. under_nil (2 ^ 32) (omega arith);
    running = λ i h. never false h refl;
    no_count = λ j h. refl;
    pins = λ p l. by (is_input (kind t p));
  }
    where
      by : (c : Bool) → (c ⇒ true) ≡ true
      by true = refl
      by false = refl

  stock-of : (n k : ℕ) → n < nodes t → kind t n ≡ k → is_object_node k ≡ true → has_stock t n ≡ true
  stock-of n k l e h = rw (lt-ltb n (nodes t) l, e) h

  pub start-good : (b : List ℕ) (m : Marking) → Bytes b → start_of t b ≡ good m → Good t m × (m.ended ≡ false)
  unfolding start_of value_lists
  start-good b m u h =
      let ps = keep (λ n. is_incoming (kind t n)) (below (nodes t)) in
      let r = known-good 15 (value_lists ps b) _ m h in
      let vss = r.0 in
      let gains : ℕ → Bool = λ e. has_tokens t e && is_initial (kind t (source t e)) in
      let n = need-good 16 (room_in t (given gains ps vss (blank false))) _ m r.2 in
      let g : Gift t gains ps vss = record {
        words = lists-words limits.most_upper ps b vss [] u (whole_is _ vss r.1);
        stocks = λ k i. let q = in_keep-below (λ n. is_incoming (kind t n)) (nodes t) i in stock-of k 6 q.0 (eqb-true _ 6 q.1) refl;
        no_inputs = λ k i. let q = in_keep-below (λ n. is_incoming (kind t n)) (nodes t) i in rw (eqb-true (kind t k) 6 q.1);
        counts = λ e k. (and-true (has_tokens t e) _ k).0;
      } in
      rw (← same_good n.1) (given-good t gains ps vss (blank false) blank_ready g n.0)

  -- ---- finish
  module _ (a : ℕ) (m : Marking) (ok : Good t m) (live : m.ended ≡ false) where
    abbrev idle : Marking
    idle = idled t a m

    pin_idle : (p : ℕ) → p < nodes t → pin_fine t idle p ≡ true
    unfolding pin_fine idled marking_fine
    pin_idle p l =
        by (is_input (kind t p)) (eqb (owner t p) a) (all-below _ (nodes t) (and-true (all (pin_fine t m) (below (nodes t))) _ ok.fine).0 p l)
      where
        by : (c d : Bool)
            → (c ⇒ cond (m.runs (owner t p)) (within (lower t p) (upper t p) (length (m.stock p))) (eqb (length (m.stock p)) 0)) ≡ true
            → (c ⇒ cond (not d && m.runs (owner t p)) (within (lower t p) (upper t p) (length (cond (c && d) [] (m.stock p)))) (eqb (length (cond (c && d) [] (m.stock p))) 0)) ≡ true
        by true true h = refl
        by true false h = h
        by false d h = refl

    idled_ready : Ready t idle
    unfolding idled
    idled_ready = record {
      live = live;
      no_stock = λ i h. either_way (λ l. l ≡ []) (is_input (kind t i) && eqb (owner t i) a) [] (m.stock i) refl (sym (good_elsewhere t m ok (stockOf i) h));
      values = λ i. either_way Words (is_input (kind t i) && eqb (owner t i) a) [] (m.stock i) (under_nil (2 ^ 32) (omega arith)) (ok.values i);
      running = λ i h. ok.running i (and-true (not (eqb i a)) _ h).1;
      no_count = λ j h. sym (good_elsewhere t m ok (tokensOf j) h);
      pins = pin_idle;
    }

    pub finish-good : (b : List ℕ) (m' : Marking) → Bytes b → finish_of t m a b ≡ good m' → Good t m' × (m'.ended ≡ false)
    unfolding finish_of value_lists outputs
    finish-good b m' u h =
        let r6 = need-good 6 (not m.ended) _ m' h in
        let r14 = need-good 14 (ltb a (nodes t) && is_action (kind t a) && m.runs a) _ m' r6.1 in
        let ps = keep (λ p. is_output (kind t p) && eqb (owner t p) a) (below (nodes t)) in
        let r = known-good 15 (value_lists ps b) _ m' r14.1 in
        let vss = r.0 in
        let gains : ℕ → Bool = λ e. has_tokens t e && eqb (source t e) a in
        let n = need-good 16 (room_in t (given gains ps vss idle)) _ m' r.2 in
        let is : (k : ℕ) → In k ps → (k < nodes t) × (kind t k ≡ 4)
        = λ k i. let q = in_keep-below (λ p. is_output (kind t p) && eqb (owner t p) a) (nodes t) i in (q.0, eqb-true _ 4 (and-true _ _ q.1).0) in
        let g : Gift t gains ps vss = record {
          words = lists-words limits.most_upper ps b vss [] u (whole_is _ vss r.1);
          stocks = λ k i. stock-of k 4 (is k i).0 (is k i).1 refl;
          no_inputs = λ k i. rw (is k i).1;
          counts = λ e k. (and-true (has_tokens t e) _ k).0;
        } in
        rw (← same_good n.1) (given-good t gains ps vss idle idled_ready g n.0)
