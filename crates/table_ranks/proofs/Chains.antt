-- Chains of control nodes, and ranks that passes over the links lift until they are the lengths of the longest chains. Assumes nothing.
use mathlib.Core.Path.{◌≡◌, refl, sym, ap, ◌∙◌, subst}
use Prim.Native.Nat.{ℕ, zero, suc, ◌+◌, ◌-◌, ◌≤◌, ◌<◌}
use mathlib.Core.Bool.{Bool, true, false, ◌&&◌}
use mathlib.Core.List.{List}
use mathlib.Core.Logic.{⊎_elim}
use native.Mathlib.Omega.{arith}
use native.Mathlib.Nat.{add-zero, add-suc}
use native.Mathlib.Decide.{dec_lt}
use lib.Dec.{eqb}
use lib.ListN.{length, set}
use lib.Seq.{get_or-set_same, get_or-set_other}
use borrow.Author.Tests.{eqb-true, eq-eqb}
use Rattle.paper.specs.Lists.{at, below, one_if}
use Rattle.paper.specs.Limits.{limits}
use Rattle.paper.specs.Table.{nodes, edges, source, target, kind, into, is_control_node, chain}
use Rattle.paper.proofs.Bools.{never, and-true, iff}
use Rattle.paper.proofs.Members.{any_in, keep_in, in_below, below_in}
use Rattle.paper.proofs.Fuel.{chain_shorter, chain_longer}
use Rattle.paper.proofs.Shapes.{chain-on}
use Rattle.paper.proofs.Tables.{edge_facts}
use Rattle.words.specs.Marks.{MarksOf}
use Rattle.table.specs.declared.Table.{Table}
use Rattle.table.specs.Reading.{Spans, EdgesFine}
use Rattle.table.proofs.Incoming.{equal_or_not}
use Rattle.table_ranks.specs.Chains.{Framed, Ranked, AllRanked, IsLink, Links, NextRank}

-- rows 2 and 3 passed: edges have nodes at their ends
pub fine-framed : {t : List ℕ} {x : Table} → Spans t x → EdgesFine t → Framed t x
fine-framed {t} s h = record { spans = s; sources = λ j l. (edge_facts t j (h j l)).source_fits; targets = λ j l. (edge_facts t j (h j l)).target_fits }

-- ---- chains
down : (t : List ℕ) (k n i : ℕ) → chain t (k + n) i ≡ true → chain t k i ≡ true
down t k zero i h = subst (λ z. chain t z i ≡ true) (add-zero k) h
down t k (suc n) i h = down t k n i (chain_shorter t (k + n) i (subst (λ z. chain t z i ≡ true) (add-suc k n) h))

-- a chain has shorter ones in it, with the same end
pub chain_down : (t : List ℕ) (j k i : ℕ) → j ≤ k → chain t k i ≡ true → chain t j i ≡ true
chain_down t j k i l h = let e : k ≡ j + (k - j) = omega arith in down t j (k - j) i (subst (λ z. chain t z i ≡ true) e h)

chain-none : (t : List ℕ) (i : ℕ) → chain t 0 i ≡ true
unfolding chain
chain-none t i = refl

chain-one : (t : List ℕ) (i : ℕ) → chain t 1 i ≡ is_control_node (kind t i)
unfolding chain
chain-one t i = refl

-- it goes on over an edge into a control node
pub chain-over : (t : List ℕ) (k j : ℕ) → j < edges t → is_control_node (kind t (target t j)) ≡ true → chain t k (source t j) ≡ true → chain t (suc k) (target t j) ≡ true
unfolding into
chain-over t k j l c h = chain_longer t k (target t j) j c (keep_in (λ k. eqb (target t k) (target t j)) (below_in (edges t) l) (eq-eqb (target t j) (target t j) refl)) h

-- and came over a link, if it has two nodes or more
last_link : (t : List ℕ) (k i : ℕ) → 1 ≤ k → chain t (suc k) i ≡ true → (j : ℕ) × IsLink t j × (target t j ≡ i) × (chain t k (source t j) ≡ true)
last_link t k i l h =
    let r = any_in (λ j. is_control_node (kind t (target t j)) && chain t k (source t j) && eqb (target t j) i) (below (edges t)) (sym (chain-on t k i l) ∙ h) in
    let j = r.0 in
    let a = and-true (is_control_node (kind t (target t j)) && chain t k (source t j)) _ r.2 in
    let b = and-true (is_control_node (kind t (target t j))) _ a.0 in
    let from : is_control_node (kind t (source t j)) ≡ true = sym (chain-one t (source t j)) ∙ chain_down t 1 k (source t j) l b.1 in
    (j, record { inside = in_below (edges t) r.1; leaves = from; enters = b.0 }, eqb-true (target t j) i a.1, b.1)

-- ---- before the first pass
pub marks_ranked : (t rk : List ℕ) → MarksOf (λ i. is_control_node (kind t i)) (nodes t) rk → AllRanked t rk 1
marks_ranked t rk h i l = by (is_control_node (kind t i)) refl (h.tell i l)
  where
    by : (b : Bool) → is_control_node (kind t i) ≡ b → at rk i ≡ one_if b → Ranked t rk 1 i
    by true c e = record { small = omega arith; reached = subst (λ z. chain t z i ≡ true) (sym e) (chain-one t i ∙ c); longest = λ n u q. omega arith }
    by false c e = record {
      small = omega arith;
      reached = subst (λ z. chain t z i ≡ true) (sym e) (chain-none t i);
      longest = λ n u q. elim (dec_lt n 1) [
        | yes v ↦ omega arith
        | no v ↦ let z : n ≡ 1 = omega arith in never (chain t 1 i) (subst (λ y. chain t y i ≡ true) z q) (chain-one t i ∙ c)
      ];
    }

module _ {t rk : List ℕ} {i : ℕ} (y : Ranked t rk 1 i) where
  -- a node has a rank exactly if it is a control node
  ranked_control : (at rk i ≡ 0 → ⊥) → is_control_node (kind t i) ≡ true
  ranked_control ne = sym (chain-one t i) ∙ chain_down t 1 (at rk i) i (let z : 1 ≤ at rk i = omega (arith, ne) in z) y.reached

  control_ranked : is_control_node (kind t i) ≡ true → at rk i ≡ 0 → ⊥
  control_ranked c e = let z = y.longest 1 (omega arith) (chain-one t i ∙ c) in omega arith

-- ---- the links, edge by edge
pub links_none : (t links : List ℕ) → Links t links 0 0
links_none t links = record { only = λ x l. absurd (omega arith); every = λ j l. absurd (omega arith) }

-- edge j is passed
module _ {t rk links : List ℕ} {n : ℕ} {x : Table} (j : ℕ) (f : Framed t x) (ranked : AllRanked t rk 1) (lj : j < edges t) (y : Links t links j n) where
  skipped : (IsLink t j → ⊥) → Links t links (j + 1) n
  skipped none = record {
    only = y.only;
    every = λ i l h. elim (dec_lt i j) [
      | yes q ↦ y.every i q h
      | no q ↦ let e : i ≡ j = omega arith in absurd (none (subst (λ z. IsLink t z) e h))
    ];
  }

  -- one of its ends has no rank
  pub links_no_source : at rk (source t j) ≡ 0 → Links t links (j + 1) n
  links_no_source e = skipped (λ h. control_ranked (ranked (source t j) (f.sources j lj)) h.leaves e)

  pub links_no_target : at rk (target t j) ≡ 0 → Links t links (j + 1) n
  links_no_target e = skipped (λ h. control_ranked (ranked (target t j) (f.targets j lj)) h.enters e)

  -- both have: it is put at the end
  pub links_more : n < length links → (at rk (source t j) ≡ 0 → ⊥) → (at rk (target t j) ≡ 0 → ⊥) → Links t (set links n j) (j + 1) (n + 1)
  links_more room ns nt = record {
    only = λ x l. ⊎_elim
        (λ e. subst (λ z. IsLink t z) (sym (ap (at (set links n j)) e ∙ new)) is_link)
        (λ ne. subst (λ z. IsLink t z) (sym (old x ne)) (y.only x (omega (arith, l, ne))))
        (equal_or_not x n);
    every = λ i l h. elim (dec_lt i j) [
      | yes q ↦ let r = y.every i q h in (r.0, omega (arith, r.1), old r.0 (let u = r.1 in omega arith) ∙ r.2)
      | no q ↦ let e : i ≡ j = omega arith in (n, omega arith, new ∙ sym e)
    ];
  }
    where
      is_link : IsLink t j
      is_link = record {
        inside = lj;
        leaves = ranked_control (ranked (source t j) (f.sources j lj)) ns;
        enters = ranked_control (ranked (target t j) (f.targets j lj)) nt;
      }

      new : at (set links n j) n ≡ j
      new = get_or-set_same links n j 0 room

      old : (x : ℕ) → (x ≡ n → ⊥) → at (set links n j) x ≡ at links x
      old x ne = get_or-set_other links n x j 0 ne

-- ---- a pass: the first x links are passed
pub record Lifting (t links rk : List ℕ) (k x : ℕ) : Type 0 where
  pub ranked : AllRanked t rk k
  pub passed : (y : ℕ) → y < x → (n : ℕ) → n ≤ k → n < limits.chain_too_long → chain t n (source t (at links y)) ≡ true → n < at rk (target t (at links y))

-- a link whose target stands above its source, as far as ranks go
abbrev pub Above : List ℕ → List ℕ → ℕ → Type 0
Above t rk j = (n : ℕ) → n < limits.chain_too_long → n ≤ at rk (source t j) → n < at rk (target t j)

pub lift_none : (t links rk : List ℕ) (k : ℕ) → AllRanked t rk k → Lifting t links rk k 0
lift_none t links rk k h = record { ranked = h; passed = λ y l. absurd (omega arith) }

-- link x lifts its target to r
module _ {t links rk : List ℕ} {k x r : ℕ} {table : Table} (f : Framed t table) (link : IsLink t (at links x)) (next : NextRank (at rk (source t (at links x))) r)
    (y : Lifting t links rk k x) where
  abbrev j : ℕ
  j = at links x

  told : (n : ℕ) → n ≤ k → n < limits.chain_too_long → chain t n (source t j) ≡ true → n < r
  told n u w h = next.2 n w ((y.ranked (source t j) (f.sources j link.inside)).longest n u h)

  -- the target stands there already
  module _ (high : r ≤ at rk (target t j)) where
    pub lift_left : Lifting t links rk k (x + 1)
    lift_left = record {
      ranked = y.ranked;
      passed = λ z l n u w. elim (dec_lt z x) [
        | yes q ↦ y.passed z q n u w
        | no q ↦
            let e : z ≡ x = omega arith in
            subst (λ z. chain t n (source t (at links z)) ≡ true → n < at rk (target t (at links z))) (sym e) (λ h. let a = told n u w h in omega arith)
      ];
    }

    pub left-above : Above t rk j
    left-above n w s = let a = next.2 n w s in omega arith

  -- or is lifted
  module _ (room : target t j < length rk) (low : at rk (target t j) < r) where
    abbrev lifted : List ℕ
    lifted = set rk (target t j) r

    new : at lifted (target t j) ≡ r
    new = get_or-set_same rk (target t j) r 0 room

    old : (i : ℕ) → (i ≡ target t j → ⊥) → at lifted i ≡ at rk i
    old i ne = get_or-set_other rk (target t j) i r 0 ne

    grown : (i : ℕ) → at rk i ≤ at lifted i
    grown i = ⊎_elim (λ e. let a = ap (at rk) e in let b = ap (at lifted) e ∙ new in omega arith) (λ ne. omega (arith, old i ne)) (equal_or_not i (target t j))

    new_ranked : Ranked t lifted k (target t j)
    new_ranked =
        let s = y.ranked (source t j) (f.sources j link.inside) in
        let o = y.ranked (target t j) (f.targets j link.inside) in
        let c = chain-over t (at rk (source t j)) j link.inside link.enters s.reached in
        record {
          small = (let a = next.0 in omega (arith, new));
          reached = subst (λ z. chain t z (target t j) ≡ true) (sym new) (chain_down t r (suc (at rk (source t j))) (target t j) (let a = next.1 in omega arith) c);
          longest = λ n u h. let a = o.longest n u h in omega (arith, new);
        }

    old_ranked : (i : ℕ) → at lifted i ≡ at rk i → Ranked t rk k i → Ranked t lifted k i
    old_ranked i e h = record {
      small = (let a = h.small in omega arith);
      reached = subst (λ z. chain t z i ≡ true) (sym e) h.reached;
      longest = λ n u q. let a = h.longest n u q in omega arith;
    }

    pub lift_taken : Lifting t links (set rk (target t j) r) k (x + 1)
    lift_taken = record {
      ranked = λ i l. ⊎_elim (λ e. subst (λ z. Ranked t lifted k z) (sym e) new_ranked) (λ ne. old_ranked i (old i ne) (y.ranked i l)) (equal_or_not i (target t j));
      passed = λ z l n u w. elim (dec_lt z x) [
        | yes q ↦ λ h. let a = y.passed z q n u w h in let b = grown (target t (at links z)) in omega arith
        | no q ↦
            let e : z ≡ x = omega arith in
            subst (λ z. chain t n (source t (at links z)) ≡ true → n < at lifted (target t (at links z))) (sym e) (λ h. let a = told n u w h in omega (arith, new))
      ];
    }

-- after a pass chains that are longer by one are told apart
module _ {t links rk : List ℕ} {n k : ℕ} {table : Table} (f : Framed t table) (links-are : Links t links (edges t) n) (low : 1 ≤ k) (y : Lifting t links rk k n) where
  pub pass_ranked : k < limits.chain_too_long → AllRanked t rk (k + 1)
  pass_ranked high i l = record {
    small = (y.ranked i l).small;
    reached = (y.ranked i l).reached;
    longest = λ m u h. elim (dec_lt k m) [
      | yes q ↦
          let e : m ≡ suc k = omega arith in
          let r = last_link t k i low (subst (λ z. chain t z i ≡ true) e h) in
          let x = links-are.every r.0 r.1.inside r.1 in
          let p = y.passed x.0 x.1 k (omega arith) high (subst (λ z. chain t k (source t z) ≡ true) (sym x.2) r.3) in
          let s : at rk (target t (at links x.0)) ≡ at rk i = ap (λ z. at rk (target t z)) x.2 ∙ ap (at rk) r.2 in
          omega arith
      | no q ↦ (y.ranked i l).longest m (omega arith) h
    ];
  }

  -- after a pass that lifts nothing all are
  pub pass_settled : ((x : ℕ) → x < n → Above t rk (at links x)) → AllRanked t rk limits.chain_too_long
  pass_settled above i l = record { small = (y.ranked i l).small; reached = (y.ranked i l).reached; longest = λ m u h. by m i l u h }
    where
      by : (m i : ℕ) → i < nodes t → m ≤ limits.chain_too_long → chain t m i ≡ true → m ≤ at rk i
      by zero i l u h = omega arith
      by (suc zero) i l u h = (y.ranked i l).longest 1 low h
      by (suc (suc m)) i l u h =
          let r = last_link t (suc m) i (omega arith) h in
          let x = links-are.every r.0 r.1.inside r.1 in
          let a = subst (λ z. Above t rk z) x.2 (above x.0 x.1) in
          let s = by (suc m) (source t r.0) (f.sources r.0 r.1.inside) (omega arith) r.3 in
          let p = a (suc m) (omega arith) s in
          let e = ap (at rk) r.2 in
          omega arith

-- ---- what a rank tells
pub rank_tells : {t rk : List ℕ} {i : ℕ} → Ranked t rk limits.chain_too_long i → eqb (at rk i) limits.chain_too_long ≡ chain t limits.chain_too_long i
rank_tells {t} {rk} {i} y =
    iff _ _
    (λ h. let e = eqb-true (at rk i) limits.chain_too_long h in subst (λ z. chain t z i ≡ true) e y.reached)
    (λ h. let a = y.longest limits.chain_too_long (omega arith) h in let b = y.small in eq-eqb (at rk i) limits.chain_too_long (omega arith))
