-- Laws of row 4: tallies one edge further, and the row by kind of node. They hold for any numbers of nodes and edges. Assumes nothing.
use mathlib.Core.Path.{◌≡◌, refl, sym, ap, ap₂, ◌∙◌}
use Prim.Native.Nat.{ℕ, zero, suc, ◌+◌, ◌*◌, ◌≤◌, ◌<◌}
use native.Mathlib.Omega.{arith}
use native.Mathlib.Nat.{zero-add, add-zero, add_assoc}
use native.Mathlib.Numerals.{add-one}
use mathlib.Core.Bool.{Bool, true, false, not, ◌&&◌, ◌||◌, or_comm, and-true, and-false}
use mathlib.Core.Logic.{⊎_elim}
use mathlib.Core.List.{List}
use lib.Dec.{leb, eqb}
use lib.ListN.{length, set, length-set}
use lib.Seq.{get_or-set_same, get_or-set_other}
use borrow.Author.Tests.{leb-true, eqb-true, eqb-false, eq-eqb, ne_eqb}
use Rattle.paper.specs.Lists.{at, below, keep, count, one_if}
use Rattle.paper.specs.Limits.{limits}
use Rattle.paper.specs.Table.{edges, kind, edge_kind, source, target, is_object, is_control, into, out, is_control_node, chain, degrees_fine, one_kind, join_fine, action_fine, chain_fine, shape_fine}
use Rattle.paper.proofs.Bools.{never, and_both, or_left, iff}
use Rattle.paper.proofs.Bools.{and-true as and-true-both, or-true as or-true-cases}
use Rattle.paper.proofs.Counts.{count-below, count-below-same, count-keep, length-count}
use Rattle.paper.proofs.Shapes.{all_object, all-control}
use Rattle.paper.proofs.Tables.{EdgeFields}
use Rattle.table.proofs.Incoming.{equal_or_not}
use Rattle.table_shape.specs.declared.Degrees.{Degrees}
use Rattle.table_shape.specs.Shape.{Counts, Tallied, of_one_kind, split_fine, merge_fine, join_shape, action_shape}

-- ---- tallies: edge j counts in cell c
abbrev pub hits : List ℕ → ℕ → ℕ → Bool
hits t c j = eqb (4 * target t j + 0 + edge_kind t j) c || eqb (4 * source t j + 2 + edge_kind t j) c

bumped : (cells : List ℕ) (a c : ℕ) → a < length cells → at (set cells a (at cells a + 1)) c ≡ at cells c + one_if (eqb a c)
bumped cells a c l = by (eqb a c) refl
  where
    by : (b : Bool) → eqb a c ≡ b → at (set cells a (at cells a + 1)) c ≡ at cells c + one_if b
    by true e = rw (← eqb-true a c e) (get_or-set_same cells a (at cells a + 1) 0 l)
    by false e = get_or-set_other cells a c (at cells a + 1) 0 (λ v. eqb-false a c e (sym v)) ∙ sym (add-zero (at cells c))

either : (a b c : ℕ) → (a ≡ b → ⊥) → one_if (eqb a c) + one_if (eqb b c) ≡ one_if (eqb a c || eqb b c)
either a b c apart = by (eqb a c) (eqb b c) refl refl
  where
    by : (x y : Bool) → eqb a c ≡ x → eqb b c ≡ y → one_if x + one_if y ≡ one_if (x || y)
    by true true e f = absurd (apart (eqb-true a c e ∙ sym (eqb-true b c f)))
    by true false e f = refl
    by false true e f = refl
    by false false e f = refl

pub bumped_most : (cells more : List ℕ) (a c n : ℕ) → more ≡ set cells a (at cells a + 1) → a < length cells → at cells c ≤ n → at more c ≤ n + 1
bumped_most cells more a c n e l h = rw e (rw (bumped cells a c l) (by (eqb a c)))
  where
    by : (b : Bool) → at cells c + one_if b ≤ n + 1
    by true = omega arith
    by false = omega arith

-- two cells are bumped for one edge
pub bumped_more : (t cells more most : List ℕ) (j a b : ℕ) → more ≡ set cells a (at cells a + 1) → most ≡ set more b (at more b + 1)
    → a ≡ 4 * target t j + 0 + edge_kind t j → b ≡ 4 * source t j + 2 + edge_kind t j → edge_kind t j ≤ 1 → a < length cells → b < length cells
    → ((c : ℕ) → at cells c ≡ count (hits t c) (below j)) → (c : ℕ) → at most c ≡ count (hits t c) (below (j + 1))
bumped_more t cells more most j a b em en ea eb low la lb h c =
    let n : length more ≡ length cells = ap length em ∙ length-set cells a (at cells a + 1) in
    ap (λ (l : List ℕ). at l c) en
    ∙ bumped more b c (omega arith)
    ∙ ap (λ (x : ℕ). x + one_if (eqb b c)) (ap (λ (l : List ℕ). at l c) em ∙ bumped cells a c la)
    ∙ add_assoc (at cells c) (one_if (eqb a c)) (one_if (eqb b c))
    ∙ ap₂ ◌+◌ (h c) (either a b c (λ e. omega arith))
    ∙ rw (ea, eb) (sym (count-below (hits t c) j))
    ∙ ap (λ (x : ℕ). count (hits t c) (below x)) (sym (add-one j))

-- an edge of kind k at node x, and at y on its other side, hits cell m of node i's side u; the sides are 0, in, and 2, out
cell-hit : (x y k i m u v w : ℕ) → u ≡ 2 * w → u + v ≡ 2 → k ≤ 1 → m ≤ 1
    → eqb (4 * x + u + k) (4 * i + u + m) || eqb (4 * y + v + k) (4 * i + u + m) ≡ eqb x i && eqb k m
cell-hit x y k i m u v w eu ev hk hm =
    iff _ _
    (λ h. ⊎_elim
    (λ p. let e = eqb-true (4 * x + u + k) (4 * i + u + m) p in and_both (eqb x i) (eqb k m) (eq-eqb x i (omega arith)) (eq-eqb k m (omega arith)))
    (λ p. let e = eqb-true (4 * y + v + k) (4 * i + u + m) p in absurd (omega arith)) (or-true-cases _ _ h))
    (λ h. let p = and-true-both (eqb x i) (eqb k m) h in
    let e = eqb-true x i p.0 in
    let f = eqb-true k m p.1 in or_left (eqb (4 * x + u + k) (4 * i + u + m)) _ (eq-eqb (4 * x + u + k) (4 * i + u + m) (omega arith)))

not_object : (k : ℕ) → k ≤ 1 → eqb k 0 ≡ not (eqb k 1)
not_object zero h = refl
not_object (suc zero) h = refl
not_object (suc (suc k)) h = absurd (omega arith)

-- a cell is a count of the edges kept: those of kind m into node i, or out of it
module _ (t cells : List ℕ) (h : (c : ℕ) → at cells c ≡ count (hits t c) (below (edges t))) (facts : (j : ℕ) → j < edges t → EdgeFields t j) where
  cell : (c : ℕ) (p q : ℕ → Bool) → ((j : ℕ) → j < edges t → hits t c j ≡ p j && q j) → at cells c ≡ count q (keep p (below (edges t)))
  cell c p q e =
      h c ∙ count-below-same (hits t c) (λ j. p j && q j) (edges t) e ∙ sym (count-keep p q (below (edges t)))

  -- a test of an edge is whether its kind is m
  abbrev Tells : ℕ → (ℕ → Bool) → Type 0
  Tells m q = (j : ℕ) → edge_kind t j ≤ 1 → eqb (edge_kind t j) m ≡ q j

  in_cell : (i m c : ℕ) (q : ℕ → Bool) → Tells m q → c ≡ 4 * i + 0 + m → m ≤ 1 → at cells c ≡ count q (into t i)
  unfolding into
  in_cell i m c q tells e l =
      cell c (λ j. eqb (target t j) i) q
      (λ j u. let k = (facts j u).kind_fits in
      rw e (cell-hit (target t j) (source t j) (edge_kind t j) i m 0 2 0 refl refl k l) ∙ ap (λ (b : Bool). eqb (target t j) i && b) (tells j k))

  out-cell : (i m c : ℕ) (q : ℕ → Bool) → Tells m q → c ≡ 4 * i + 2 + m → m ≤ 1 → at cells c ≡ count q (out t i)
  unfolding out
  out-cell i m c q tells e l =
      cell c (λ j. eqb (source t j) i) q
      (λ j u. let k = (facts j u).kind_fits in
      rw e (or_comm (eqb (4 * target t j + 0 + edge_kind t j) (4 * i + 2 + m)) _ ∙ cell-hit (source t j) (target t j) (edge_kind t j) i m 2 0 1 refl refl k l)
      ∙ ap (λ (b : Bool). eqb (source t j) i && b) (tells j k))

  control : Tells 0 (is_control t)
  control j k = not_object (edge_kind t j) k

  object : Tells 1 (is_object t)
  object j k = refl

  pub tallied : Tallied t cells
  tallied i l = record {
    control_in = in_cell i 0 (4 * i) (is_control t) control (omega arith) (omega arith);
    object_in = in_cell i 1 (4 * i + 1) (is_object t) object (omega arith) (omega arith);
    control-out = out-cell i 0 (4 * i + 2) (is_control t) control (omega arith) (omega arith);
    object_out = out-cell i 1 (4 * i + 3) (is_object t) object (omega arith) (omega arith);
  }

-- ---- row 4 from the counts
none_of : (a b : ℕ) → eqb a 0 && eqb b 0 ≡ eqb (a + b) 0
none_of zero b = rw zero-add
none_of (suc a) b = rw (ne_eqb (suc a) 0 (λ e. omega arith), ne_eqb (suc a + b) 0 (λ e. omega arith))

neither : {a b c d : ℕ} → a ≡ c → b ≡ d → eqb c 0 && eqb d 0 ≡ eqb (a + b) 0
neither {a} {b} e f = rw (← e, ← f) (none_of a b)

module _ (t : List ℕ) (i : ℕ) (d : Degrees) (h : Counts t i d) where
  pub in_degree : d.into.control + d.into.object ≡ length (into t i)
  in_degree = ap₂ ◌+◌ h.control_in h.object_in ∙ sym (length-count (is_object t) (into t i))

  pub out_degree : d.out.control + d.out.object ≡ length (out t i)
  out_degree = ap₂ ◌+◌ h.control-out h.object_out ∙ sym (length-count (is_object t) (out t i))

  pub one-kind : of_one_kind t i ≡ eqb (d.into.control + d.out.control) 0 || eqb (d.into.object + d.out.object) 0
  one-kind =
      ap₂ ◌||◌ (all_object t (into t i) (out t i) ∙ neither h.control_in h.control-out)
      (all-control t (into t i) (out t i) ∙ neither h.object_in h.object_out)

-- ---- row 4 by kind, where no chain of the forbidden length ends
module _ (t : List ℕ) (i : ℕ) (free : chain t limits.chain_too_long i ≡ false) where
  pub at_action : kind t i ≡ 2 → action_shape t i ≡ shape_fine t limits i
  unfolding shape_fine degrees_fine one_kind join_fine action_fine chain_fine
  at_action e = sym (simp (e, free, and-true))

  pub at_decision : kind t i ≡ 8 → split_fine t i ≡ shape_fine t limits i
  unfolding shape_fine degrees_fine one_kind join_fine action_fine chain_fine
  at_decision e = sym (simp (e, free, and-true))

  pub at_merge : kind t i ≡ 9 → merge_fine t i ≡ shape_fine t limits i
  unfolding shape_fine degrees_fine one_kind join_fine action_fine chain_fine
  at_merge e = sym (simp (e, free, and-true))

  pub at_fork : kind t i ≡ 10 → split_fine t i ≡ shape_fine t limits i
  unfolding shape_fine degrees_fine one_kind join_fine action_fine chain_fine
  at_fork e = sym (simp (e, free, and-true))

  pub at_join : kind t i ≡ 11 → join_shape t i ≡ shape_fine t limits i
  unfolding shape_fine degrees_fine one_kind join_fine action_fine chain_fine
  at_join e = sym (simp (e, free, and-true))

  -- a control node that is no merge and no join is a decision or a fork
  pub at_split : is_control_node (kind t i) ≡ true → (kind t i ≡ 9 → ⊥) → (kind t i ≡ 11 → ⊥) → split_fine t i ≡ shape_fine t limits i
  at_split c m j =
      let r = and-true-both (leb 8 (kind t i)) (leb (kind t i) 11) c in
      let low = leb-true 8 (kind t i) r.0 in
      let high = leb-true (kind t i) 11 r.1 in
      ⊎_elim at_decision (λ d. at_fork (omega (arith, low, high, m, j, d))) (equal_or_not (kind t i) 8)

  -- a node that is neither a control node nor an action is free
  pub at_rest : (kind t i ≡ 2 → ⊥) → is_control_node (kind t i) ≡ false → true ≡ shape_fine t limits i
  unfolding shape_fine degrees_fine one_kind join_fine action_fine chain_fine
  at_rest a c =
      sym (simp (ne_eqb (kind t i) 2 a, ne_eqb (kind t i) 8 (no 8 refl), ne_eqb (kind t i) 9 (no 9 refl), ne_eqb (kind t i) 10 (no 10 refl), ne_eqb (kind t i) 11 (no 11 refl), free))
    where
      no : (n : ℕ) → is_control_node n ≡ true → kind t i ≡ n → ⊥
      no n h e = never (is_control_node n) h (ap is_control_node (sym e) ∙ c)

-- ---- where a chain of the forbidden length ends
pub at-chain-end : (t : List ℕ) (i : ℕ) → chain t limits.chain_too_long i ≡ true → shape_fine t limits i ≡ false
unfolding shape_fine chain_fine
at-chain-end t i e = simp (e, and-false)
