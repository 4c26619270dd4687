-- What the rows of the net say, in the words of seating. Assumes nothing.
use mathlib.Core.Path.{◌≡◌, refl, sym, ap, ap₂, ◌∙◌}
use mathlib.Core.Bool.{Bool, true, false, not, ◌&&◌, ◌||◌}
use mathlib.Core.List.{List, [], ◌∷◌}
use Prim.Native.Nat.{ℕ, ◌+◌, ◌-◌, ◌^◌, ◌≤◌, ◌<◌}
use native.Mathlib.Omega.{arith}
use native.Mathlib.Decide.{dec_lt}
use lib.Dec.{leb, ltb, eqb}
use lib.Bits.{bit_and, and_comm}
use lib.ListN.{length, set}
use lib.Pow.{pow-lt}
use lib.Seq.{get_or-set_same, get_or-set_other}
use borrow.Author.Tests.{eq-eqb, ne_eqb, lt-ltb, le-ltb, leb-true, le-leb, eqb-true}
use Rattle.paper.specs.Lists.{at, has, below, any, within, ◌⇒◌}
use Rattle.paper.specs.Table.{nodes, kind, owner, lower, upper, target as targetOfEdge, is_action, is_buffer, is_outgoing}
use Rattle.paper.proofs.Bools.{and-true, and_both, and_never, iff}
use Rattle.paper.proofs.Bits.{has_pow, meet_has, has_meet}
use Rattle.paper.proofs.Counts.{any-below-none}
use Rattle.paper.proofs.Lists.{all-below, below_all}
use Rattle.paper.proofs.Members.{any_in, in_any, in_below, below_in}
use Rattle.paper.specs.Limits.{limits}
use Rattle.offers.specs.Sets.{Marks}
use Rattle.pick_bounds.specs.Net.{rule, clash_rule, rivals_at, meets, in_both, held, obeys}
use Rattle.pick_bounds.proofs.FourKinds.{clash_obeyed, need_obeyed, cap_obeyed}
use Rattle.pick_bounds.proofs.Rules.{obeys-apart}
use Rattle.ends_masks.specs.Seating.{rival, rivalled, makes, siblings, kept, seats, served}
use Rattle.ends_masks.proofs.Numbers.{any-below-alike}
use Rattle.choice_masks.specs.Masks.{Owned}
use Rattle.pick_wanted.proofs.Masks.{meets-marks, held-marks, meets-served}
use Rattle.pick_rules.specs.Rules.{holds, on_each, Starts, leads, vacant, first_row, BarredEnds, clash_kept, fork_kept, edge_kept, edge_bar, pin_kept, store_kept, seats_kept, node_bar}
use Rattle.pick_rules.specs.Rules.{idle_kept, pin_bar}

-- those that have x in a column are counted
held-seats : (column : List ℕ) (x n w c : ℕ) → Marks (λ k. eqb (at column k) x) n w → held n c w ≡ seats column n c x
unfolding seats
held-seats column x n w c h = held-marks h c

-- a test under a condition that holds, that doesn't, and one that holds anyway
if_held : (a b : Bool) → a ≡ true → a ⇒ b ≡ b
if_held a b e = rw e

if_not : (a b : Bool) → a ≡ false → a ⇒ b ≡ true
if_not a b e = rw e

if_none : (a : Bool) → a ⇒ true ≡ true
if_none true = refl
if_none false = refl

-- ---- the row that comes with end k
module _ (column : List ℕ) (most : ℕ) (keeps : ℕ → Bool) (k : ℕ) where
  pub row_first : (x : ℕ) → at column k ≡ x → x < most → leads column k ≡ true → first_row column most keeps k ≡ keeps x
  row_first x q l d = if_held _ _ (and_both _ _ (ap (λ (y : ℕ). ltb y most) q ∙ lt-ltb x most l) d) ∙ ap keeps q

  pub row_past : most ≤ at column k → first_row column most keeps k ≡ true
  row_past l = rw (le-ltb (at column k) most l)

  pub row_later : leads column k ≡ false → first_row column most keeps k ≡ true
  row_later d = if_not _ _ (ap (λ (b : Bool). ltb (at column k) most && b) d ∙ and_never (ltb (at column k) most))

-- ---- rule 1
module _ (foes makers : List ℕ) (n : ℕ) where
  clash-says : (k w c : ℕ) → k < n → Marks (rival foes makers k) n w → obeys n (clash_rule k w) c ≡ clash_kept foes makers n k c
  unfolding clash_kept rivalled
  clash-says k w c l h = clash_obeyed n c k w l ∙ ap (λ (b : Bool). not (has c k && b)) (meets-marks h c)

  -- what is past the last end binds no set of n ends
  clash_past : (k w c : ℕ) → n ≤ k → obeys n (clash_rule k w) c ≡ true
  unfolding meets
  clash_past k w c l =
      obeys-apart n (clash_rule k w) c (any-below-none (in_both c (2 ^ k)) n (λ j g. rw (has_pow k j, ne_eqb j k (λ e. omega arith)) (and_never (has c j))))

  -- the cells below k are filled
  pub record Filled (net : List ℕ) (k : ℕ) : Type 0 where
    pub cells : (j : ℕ) → j < k → (c : ℕ) → obeys n (rivals_at net j) c ≡ clash_kept foes makers n j c

  pub filled_none : (net : List ℕ) → Filled net 0
  filled_none net = record { cells = λ j l. absurd (omega arith) }

  pub filled_more : (net : List ℕ) (k w : ℕ) → k < length net → k < n → Marks (rival foes makers k) n w → Filled net k → Filled (set net k w) (k + 1)
  filled_more net k w room few h f = record {
    cells = λ j l c.
        elim (dec_lt j k) [
          | yes g ↦ ap (λ (x : ℕ). obeys n (clash_rule j x) c) (get_or-set_other net k j w 0 (omega arith)) ∙ f.cells j g c
          | no g ↦ let e : j ≡ k = omega arith in rw e (ap (λ (x : ℕ). obeys n (clash_rule k x) c) (get_or-set_same net k w 0 room) ∙ clash-says k w c few h)
        ];
  }

  pub filled_all : (net : List ℕ) (k : ℕ) → k ≡ n → n ≤ limits.most_ends → Filled net k → Starts net n (on_each (clash_kept foes makers n) (below n) ∷ [])
  unfolding holds
  filled_all net k e few f = record {
    says = λ c.
        ap (λ (b : Bool). b && true)
        (iff _ _
        (λ h.
        below_all (λ j. clash_kept foes makers n j c) n
        (λ j l. sym (f.cells j (omega arith) c) ∙ all-below (λ j. obeys n (rivals_at net j) c) 20 h j (omega arith)))
        (λ h.
        below_all (λ j. obeys n (rivals_at net j) c) 20
        (λ j l.
        elim (dec_lt j n) [
          | yes g ↦ f.cells j (omega arith) c ∙ all-below (λ j. clash_kept foes makers n j c) n h j g
          | no g ↦ clash_past j (at net j) c (omega arith)
        ])));
  }

-- ---- rule 2
abbrev pub Made : List ℕ → ℕ → ℕ → ℕ → Type 0
Made makers n word w = Marks (λ k. not (eqb (bit_and (at makers k) word) 0)) n w

-- an end is taken that a row of the word makes, exactly if a row of the word makes a taken end
module _ (makers : List ℕ) (n c : ℕ) where
  made-meets : (p : ℕ → Bool) (rows word w : ℕ) → Marks p rows word → Made makers n word w
      → meets n c w ≡ any (λ y. p y && makes makers n c y) (below rows)
  unfolding makes
  made-meets p rows word w h m =
      meets-marks m c
      ∙ iff _ _
      (λ e.
      let k = any_in (λ k. has c k && not (eqb (bit_and (at makers k) word) 0)) (below n) e in
      let q = and-true (has c k.0) _ k.2 in
      let y = meet_has word (at makers k.0) rows h.small (ap (λ (z : ℕ). not (eqb z 0)) (and_comm word (at makers k.0)) ∙ q.1) in
      in_any (λ y. p y && any (λ k. has c k && has (at makers k) y) (below n)) (below_in rows y.1)
      (and_both _ _ (sym (h.says y.0 y.1) ∙ y.2)
      (in_any (λ k. has c k && has (at makers k) y.0) k.1 (and_both _ _ q.0 y.3))))
      (λ e.
      let y = any_in (λ y. p y && any (λ k. has c k && has (at makers k) y) (below n)) (below rows) e in
      let q = and-true (p y.0) _ y.2 in
      let k = any_in (λ k. has c k && has (at makers k) y.0) (below n) q.1 in
      let r = and-true (has c k.0) _ k.2 in
      in_any (λ k. has c k && not (eqb (bit_and (at makers k) word) 0)) k.1
      (and_both _ _ r.0 (has_meet (at makers k.0) word y.0 r.1 (h.says y.0 (in_below rows y.1) ∙ q.0))))

  -- of one row alone
  one-meets : (z w : ℕ) → Made makers n (2 ^ z) w → meets n c w ≡ makes makers n c z
  unfolding makes
  one-meets z w m =
      meets-marks m c
      ∙ any-below-alike (λ k. has c k && not (eqb (bit_and (at makers k) (2 ^ z)) 0)) (λ k. has c k && has (at makers k) z) n
      (λ k l. ap (λ (b : Bool). has c k && b) (one (at makers k)))
    where
      one : (x : ℕ) → not (eqb (bit_and x (2 ^ z)) 0) ≡ has x z
      one x =
          iff _ _
          (λ e.
          let j = meet_has (2 ^ z) x (z + 1) (pow-lt (omega arith)) (ap (λ (y : ℕ). not (eqb y 0)) (and_comm (2 ^ z) x) ∙ e) in
          ap (has x) (sym (eqb-true j.0 z (sym (has_pow z j.0) ∙ j.2))) ∙ j.3)
          (λ e. has_meet x (2 ^ z) z e (has_pow z z ∙ eq-eqb z z refl))

module _ (t node parents makers : List ℕ) (rows n z c : ℕ) where
  pub fork_says : (word w v : ℕ) → at node z < nodes t → kind t (at node z) ≡ 10 → n ≤ limits.most_ends
      → Marks (λ y. siblings node parents y z) rows word → Made makers n word w → Made makers n (2 ^ z) v
      → obeys n (rule w v 1 32) c ≡ fork_kept t node parents makers rows n z c
  unfolding fork_kept kept
  fork_says word w v l e few h mw mv =
      need_obeyed n c w v (omega arith)
      ∙ ap₂ (λ (a b : Bool). a ⇒ b) (made-meets makers n c (λ y. siblings node parents y z) rows word w h mw) (one-meets makers n c z v mv)
      ∙ sym (rw (lt-ltb (at node z) (nodes t) l, e))

  pub fork_past : nodes t ≤ at node z → fork_kept t node parents makers rows n z c ≡ true
  unfolding fork_kept
  fork_past l = rw (le-ltb (at node z) (nodes t) l)

  pub fork_other : at node z < nodes t → (kind t (at node z) ≡ 10 → ⊥) → fork_kept t node parents makers rows n z c ≡ true
  unfolding fork_kept
  fork_other l ne = rw (lt-ltb (at node z) (nodes t) l, ne_eqb (kind t (at node z)) 10 ne)

-- ---- rule 3: edges into actions
within-one : (x : ℕ) → within 1 1 x ≡ eqb x 1
within-one x =
    iff (within 1 1 x) (eqb x 1)
    (λ h. let q = and-true (leb 1 x) (leb x 1) h in eq-eqb x 1 (let u = leb-true 1 x q.0 in let v = leb-true x 1 q.1 in omega arith))
    (λ h. let z = eqb-true x 1 h in and_both _ _ (le-leb 1 x (omega arith)) (le-leb x 1 (omega arith)))

obeys-is : (n when only lo hi c : ℕ) → obeys n (rule when only lo hi) c ≡ meets n c when ⇒ within lo hi (held n c only)
unfolding obeys
obeys-is n when only lo hi c = refl

module _ (t edge target home : List ℕ) (n e c : ℕ) where
  pub edge-says : (i w v : ℕ) → i ≡ targetOfEdge t e → kind t i ≡ 2 → Owned target home n i w → Marks (λ k. eqb (at edge k) e) n v
      → obeys n (rule w v 1 1) c ≡ edge_kept t edge target home n e c
  unfolding edge_kept
  edge-says i w v q k o m =
      obeys-is n w v 1 1 c
      ∙ ap₂ (λ (a b : Bool). a ⇒ b) (meets-served target home n i w c o ∙ ap (served target home n c) q)
      (ap (within 1 1) (held-seats edge e n v c m) ∙ within-one (seats edge n c e))
      ∙ sym (rw (ap (kind t) (sym q) ∙ k))

  pub edge_other : (i : ℕ) → i ≡ targetOfEdge t e → (kind t i ≡ 2 → ⊥) → edge_kept t edge target home n e c ≡ true
  unfolding edge_kept
  edge_other i q ne = rw (ne_eqb (kind t (targetOfEdge t e)) 2 (λ k. ne (ap (kind t) q ∙ k)))

module _ (t edge target home : List ℕ) (n e : ℕ) where
  pub edge_bars : (i w : ℕ) → i ≡ targetOfEdge t e → kind t i ≡ 2 → vacant edge n e ≡ true → Owned target home n i w → BarredEnds n w (edge_bar t edge target home n e)
  unfolding edge_bar
  edge_bars i w q k v o = record {
    says = λ c.
        ap not (meets-served target home n i w c o ∙ ap (served target home n c) q)
        ∙ sym (if_held _ _ (and_both _ _ (ap is_action (ap (kind t) (sym q) ∙ k)) v));
  }

  pub edge_manned : vacant edge n e ≡ false → (c : ℕ) → edge_bar t edge target home n e c ≡ true
  unfolding edge_bar
  edge_manned v c = if_not _ _ (ap (λ (b : Bool). is_action (kind t (targetOfEdge t e)) && b) v ∙ and_never (is_action (kind t (targetOfEdge t e))))

  pub edge_elsewhere : (i : ℕ) → i ≡ targetOfEdge t e → (kind t i ≡ 2 → ⊥) → (c : ℕ) → edge_bar t edge target home n e c ≡ true
  unfolding edge_bar
  edge_elsewhere i q ne c = rw (ne_eqb (kind t (targetOfEdge t e)) 2 (λ k. ne (ap (kind t) q ∙ k)))

-- ---- rule 3: pins and stores
module _ (t target home runs stock : List ℕ) (n i c : ℕ) where
  pub pin_says : (j w v lo hi : ℕ) → kind t i ≡ 3 → j ≡ owner t i → lo ≡ lower t i → hi ≡ upper t i → Owned target home n j w
      → Marks (λ k. eqb (at target k) i) n v → obeys n (rule w v lo hi) c ≡ seats_kept t target home runs stock n i c
  unfolding pin_kept store_kept
  pin_says j w v lo hi e ej el eh o m =
      obeys-is n w v lo hi c
      ∙ ap₂ (λ (a b : Bool). a ⇒ b) (meets-served target home n j w c o ∙ ap (served target home n c) ej)
      (ap (within lo hi) (held-seats target i n v c m) ∙ ap₂ (λ (a b : ℕ). within a b (seats target n c i)) el eh)
      ∙ sym (rw e (mathlib.Core.Bool.and-true (served target home n c (owner t i) ⇒ within (lower t i) (upper t i) (seats target n c i))))

  pub store_says : (w most : ℕ) → (kind t i ≡ 3 → ⊥) → is_buffer (kind t i) || is_outgoing (kind t i) ≡ true
      → most ≡ upper t i - at stock i → Marks (λ k. eqb (at target k) i) n w
      → obeys n (rule w w 0 most) c ≡ seats_kept t target home runs stock n i c
  unfolding pin_kept store_kept
  store_says w most np s e m =
      cap_obeyed n c w most
      ∙ ap₂ (λ (a b : ℕ). leb a b) (held-seats target i n w c m) e
      ∙ sym (rw (ne_eqb (kind t i) 3 np, s))

  pub no_store : (kind t i ≡ 3 → ⊥) → is_buffer (kind t i) || is_outgoing (kind t i) ≡ false → seats_kept t target home runs stock n i c ≡ true
  unfolding pin_kept store_kept
  no_store np s = rw (ne_eqb (kind t i) 3 np, s)

-- ---- rule 3: ends that can't be taken
module _ (t target home runs stock : List ℕ) (n i : ℕ) where
  abbrev bar : ℕ → Bool
  bar = node_bar t target home runs stock n i

  -- at an action
  at_action : (c : ℕ) → kind t i ≡ 2 → bar c ≡ served target home n c i ⇒ eqb (at runs i) 0
  unfolding node_bar idle_kept pin_bar
  at_action c e = rw e (mathlib.Core.Bool.and-true (served target home n c i ⇒ eqb (at runs i) 0))

  pub idle_bars : kind t i ≡ 2 → at runs i ≡ 0 → (c : ℕ) → bar c ≡ true
  idle_bars e z c = at_action c e ∙ rw z (if_none (served target home n c i))

  pub busy_bars : (w : ℕ) → kind t i ≡ 2 → (at runs i ≡ 0 → ⊥) → Owned target home n i w → BarredEnds n w bar
  busy_bars w e ne o = record {
    says = λ c.
        ap not (meets-served target home n i w c o)
        ∙ by (served target home n c i)
        ∙ ap (λ (b : Bool). served target home n c i ⇒ b) (sym (ne_eqb (at runs i) 0 ne))
        ∙ sym (at_action c e);
  }
    where
      by : (b : Bool) → not b ≡ b ⇒ false
      by true = refl
      by false = refl

  -- at a pin
  at_pin : (c : ℕ) → kind t i ≡ 3 → bar c ≡ leb 1 (lower t i) && vacant target n i ⇒ not (served target home n c (owner t i))
  unfolding node_bar idle_kept pin_bar
  at_pin c e = rw e

  pub pin_bars : (j w : ℕ) → kind t i ≡ 3 → j ≡ owner t i → 1 ≤ lower t i → vacant target n i ≡ true → Owned target home n j w → BarredEnds n w bar
  pin_bars j w e ej l v o = record {
    says = λ c.
        ap not (meets-served target home n j w c o ∙ ap (served target home n c) ej)
        ∙ sym (if_held _ _ (and_both _ _ (le-leb 1 (lower t i) l) v))
        ∙ sym (at_pin c e);
  }

  pub pin_manned : kind t i ≡ 3 → vacant target n i ≡ false → (c : ℕ) → bar c ≡ true
  pin_manned e v c = at_pin c e ∙ if_not _ _ (ap (λ (b : Bool). leb 1 (lower t i) && b) v ∙ and_never (leb 1 (lower t i)))

  pub pin_idle : kind t i ≡ 3 → lower t i ≡ 0 → (c : ℕ) → bar c ≡ true
  pin_idle e l c = at_pin c e ∙ rw l

  pub node_elsewhere : (kind t i ≡ 2 → ⊥) → (kind t i ≡ 3 → ⊥) → (c : ℕ) → bar c ≡ true
  unfolding node_bar idle_kept pin_bar
  node_elsewhere na np c = rw (ne_eqb (kind t i) 2 na, ne_eqb (kind t i) 3 np)
