-- Two ends change places in a set: it holds as many of any ends that don't tell the two apart, and it passes where it did. Assumes nothing.
use mathlib.Core.Path.{◌≡◌, refl, sym, ap, ap₂, ◌∙◌}
use mathlib.Core.Logic.{◌⊎◌, inl, inr, ⊎_elim}
use mathlib.Core.Bool.{Bool, true, false, not, ◌&&◌, ◌||◌}
use mathlib.Core.List.{List}
use Prim.Native.Nat.{ℕ, zero, suc, ◌+◌, ◌^◌, ◌<◌}
use native.Mathlib.Omega.{arith}
use lib.Dec.{eqb, leb}
use lib.Bits.{bit_and, bit_or, bit_xor}
use borrow.Author.Tests.{eqb-true, eqb-false, eq-eqb, ne_eqb, leb-true}
use Rattle.paper.specs.Lists.{at, has, below, count, one_if, within, ◌⇒◌}
use Rattle.paper.proofs.Bools.{never, and_never, or_right, true_or_false, false_if}
use Rattle.paper.proofs.Counts.{count-below, count-below-same}
use Rattle.paper.specs.Limits.{limits}
use Rattle.pick_bounds.specs.declared.Wanted.{Wanted}
use Rattle.pick_bounds.specs.declared.Rule.{Rule}
use Rattle.pick_bounds.specs.declared.Bounds.{Bounds}
use Rattle.pick_bounds.specs.Net.{in_both, held, meets, obeys, clash_rule, rule_at}
use Rattle.pick_bounds.specs.Bounds.{good, Between}
use Rattle.pick_bounds.proofs.Sets.{has_or, has_without, has_power, has_power_other, meets-held, meets_at}
use Rattle.pick_bounds.proofs.Rules.{passes-all, passes-wanted, obeyed, rivals_obeyed}
use Rattle.pick_bounds.proofs.FourKinds.{clash_obeyed}
use Rattle.pick_bounds.proofs.Pruning.{unmeeting}
use Rattle.pick_twins.specs.Twins.{AlikeAll, AlikeRivals, SharesRivals, Lacking}

same_or_not : (i k : ℕ) → (i ≡ k) ⊎ (i ≡ k → ⊥)
same_or_not i k = ⊎_elim (λ e. inl (eqb-true i k e)) (λ e. inr (eqb-false i k e)) (true_or_false (eqb i k))

-- ---- counts of tests that agree but at two numbers, where they change places
-- a test that i doesn't pass
abbrev but : (ℕ → Bool) → ℕ → ℕ → Bool
but p i k = p k && not (eqb k i)

but_here : (p : ℕ → Bool) (i : ℕ) → but p i i ≡ false
but_here p i = rw (eq-eqb i i refl) (and_never (p i))

but_other : (p : ℕ → Bool) (i k : ℕ) → (k ≡ i → ⊥) → but p i k ≡ p k
but_other p i k ne = rw (ne_eqb k i ne) (by (p k))
  where
    by : (a : Bool) → a && true ≡ a
    by true = refl
    by false = refl

count_but : (p : ℕ → Bool) (i n : ℕ) → i < n → count p (below n) ≡ count (but p i) (below n) + one_if (p i)
count_but p i zero l = absurd (omega arith)
count_but p i (suc n) l = ⊎_elim last (λ ne. earlier ne (count_but p i n (omega (arith, ne)))) (same_or_not i n)
  where
    last : i ≡ n → count p (below (suc n)) ≡ count (but p i) (below (suc n)) + one_if (p i)
    last e =
        let s : count (but p i) (below n) ≡ count p (below n) = count-below-same (but p i) p n (λ k h. but_other p i k (λ f. omega arith)) in
        rw (count-below p n, count-below (but p i) n, s, ap (but p i) (sym e) ∙ but_here p i, ap p (sym e)) (omega arith)

    earlier : (i ≡ n → ⊥) → count p (below n) ≡ count (but p i) (below n) + one_if (p i) → count p (below (suc n)) ≡ count (but p i) (below (suc n)) + one_if (p i)
    earlier ne h = rw (count-below p n, count-below (but p i) n, but_other p i n (λ f. ne (sym f))) (omega arith)

module _ (p q : ℕ → Bool) (j k n : ℕ) (lj : j < n) (lk : k < n) (ne : k ≡ j → ⊥) where
  two : (r : ℕ → Bool) → count r (below n) ≡ count (but (but r j) k) (below n) + one_if (r k) + one_if (r j)
  two r = rw (count_but r j n lj, count_but (but r j) k n lk, but_other r j k ne)

  count_swapped : p j ≡ q k → p k ≡ q j → ((i : ℕ) → (i ≡ j → ⊥) → (i ≡ k → ⊥) → p i ≡ q i) → count p (below n) ≡ count q (below n)
  count_swapped a b h =
      let s : count (but (but p j) k) (below n) ≡ count (but (but q j) k) (below n) = count-below-same (but (but p j) k) (but (but q j) k) n (λ i l. same i) in
      rw (two p, two q, s, a, b) (omega arith)
    where
      same : (i : ℕ) → but (but p j) k i ≡ but (but q j) k i
      same i =
          ⊎_elim (λ e. ap (but (but p j) k) e ∙ but_here (but p j) k ∙ sym (ap (but (but q j) k) e ∙ but_here (but q j) k))
          (λ u.
          but_other (but p j) k i u
          ∙ ⊎_elim (λ e. ap (but p j) e ∙ but_here p j ∙ sym (ap (but q j) e ∙ but_here q j))
          (λ v. but_other p j i v ∙ h i v u ∙ sym (but_other q j i v)) (same_or_not i j)
          ∙ sym (but_other (but q j) k i u)) (same_or_not i k)

-- ---- a set with end k in place of end j
module _ (x j k : ℕ) (hj : has x j ≡ true) (hk : has x k ≡ false) where
  abbrev rest : ℕ
  rest = bit_xor x (bit_and x (2 ^ j))

  abbrev swapped : ℕ
  swapped = bit_or rest (2 ^ k)

  apart : k ≡ j → ⊥
  apart e = never (has x j) hj (ap (has x) (sym e) ∙ hk)

  not_power : (i m : ℕ) → (m ≡ i → ⊥) → has (2 ^ i) m ≡ false
  not_power i m ne = false_if (has (2 ^ i) m) (λ e. ne (has_power_other i m e))

  swapped_in : has swapped k ≡ true
  swapped_in = has_or rest (2 ^ k) k ∙ or_right (has rest k) (has (2 ^ k) k) (has_power k)

  swapped_out : has swapped j ≡ false
  swapped_out =
      has_or rest (2 ^ k) j
      ∙ rw (has_without x (2 ^ j) j, has_power j, hj, not_power k j (λ e. apart (sym e)))

  swapped_other : (i : ℕ) → (i ≡ j → ⊥) → (i ≡ k → ⊥) → has swapped i ≡ has x i
  swapped_other i u v =
      has_or rest (2 ^ k) i
      ∙ rw (has_without x (2 ^ j) i, not_power j i u, not_power k i v) (by (has x i))
    where
      by : (a : Bool) → a && true || false ≡ a
      by true = refl
      by false = refl

  module _ (lj : j < 32) (lk : k < 32) where
    held_swapped : (d : ℕ) → has d j ≡ has d k → held 32 swapped d ≡ held 32 x d
    unfolding held
    held_swapped d e =
        count_swapped (in_both swapped d) (in_both x d) j k 32 lj lk apart (rw (swapped_out, hk)) (rw (swapped_in, hj) (sym e))
        (λ i u v. ap (λ (a : Bool). a && has d i) (swapped_other i u v))

    meets_swapped : (d : ℕ) → has d j ≡ has d k → meets 32 swapped d ≡ meets 32 x d
    meets_swapped d e = meets-held 32 swapped d ∙ ap (leb 1) (held_swapped d e) ∙ sym (meets-held 32 x d)

    obeys_swapped : (r : Rule) → has r.when j ≡ has r.when k → has r.only j ≡ has r.only k → obeys 32 r swapped ≡ obeys 32 r x
    unfolding obeys
    obeys_swapped r a b = ap₂ (λ t h. t ⇒ within r.lo r.hi h) (meets_swapped r.when a) (held_swapped r.only b)

-- ---- a net
-- a set with no rivals of an end, and one that passes
clash-free : (i rivals x : ℕ) → i < 32 → (has x i ≡ true → (e : ℕ) → e < 32 → has x e ≡ true → has rivals e ≡ true → ⊥) → obeys 32 (clash_rule i rivals) x ≡ true
clash-free i rivals x l h = clash_obeyed 32 x i rivals l ∙ by (has x i) (λ a. unmeeting x rivals (h a))
  where
    by : (a : Bool) → (a ≡ true → meets 32 x rivals ≡ false) → not (a && meets 32 x rivals) ≡ true
    by true f = rw (f refl)
    by false f = refl

module _ (net : List ℕ) (want : Wanted) where
  clashing : (x i e : ℕ) → good net want x ≡ true → i < limits.most_ends → e < 32 → has x i ≡ true → has x e ≡ true → has (at net i) e ≡ true → ⊥
  clashing x i e g l h a b c =
      never true refl
      (sym (rivals_obeyed net want 32 x g i l)
      ∙ clash_obeyed 32 x i (at net i) (omega arith)
      ∙ rw (a, meets_at 32 x (at net i) e h b c))

  -- end k may take the place of end j
  module _ (b : Bounds) (k j : ℕ) (lk : k < limits.most_ends) (may : has b.may k ≡ true) (alone : has (at net k) k ≡ false) (loose : has b.must j ≡ false)
      (wish : has want.ends j ≡ has want.ends k) (rules : AlikeAll net k j) (rivals : AlikeRivals net k j) (shares : SharesRivals net k j) where
    module _ (x : ℕ) (g : good net want x ≡ true) (hj : has x j ≡ true) (hk : has x k ≡ false) where
      abbrev y : ℕ
      y = swapped x j k hj hk

      not_j : (i : ℕ) → has y i ≡ true → i ≡ j → ⊥
      not_j i h z = never (has y j) (ap (has y) (sym z) ∙ h) (swapped_out x j k hj hk)

      -- the rivals of end k are those of end j
      free_k : (e : ℕ) → e < 32 → (e ≡ j → ⊥) → has y e ≡ true → has (at net k) e ≡ true → ⊥
      free_k e h u p q =
          ⊎_elim (λ z. never (has (at net k) k) (ap (has (at net k)) (sym z) ∙ q) alone)
          (λ v. clashing x j e g shares.0 h hj (sym (swapped_other x j k hj hk e u v) ∙ p) (shares.1 e q u)) (same_or_not e k)

      -- another end has neither of them for a rival
      free_other : (i : ℕ) → i < limits.most_ends → (i ≡ j → ⊥) → (i ≡ k → ⊥) → has y i ≡ true → (e : ℕ) → e < 32 → (e ≡ j → ⊥) → has y e ≡ true → has (at net i) e ≡ true → ⊥
      free_other i l s t a e h u p q =
          let xi : has x i ≡ true = sym (swapped_other x j k hj hk i s t) ∙ a in
          let lj = shares.0 in
          ⊎_elim (λ z. clashing x i j g l (omega arith) xi hj (rivals i l t (λ f. s (sym f)) ∙ ap (has (at net i)) (sym z) ∙ q))
          (λ v. clashing x i e g l h xi (sym (swapped_other x j k hj hk e u v) ∙ p) q) (same_or_not e k)

      free : (i : ℕ) → i < limits.most_ends → has y i ≡ true → (e : ℕ) → e < 32 → has y e ≡ true → has (at net i) e ≡ true → ⊥
      free i l a e h p q =
          ⊎_elim (λ z. free_k e h (not_j e p) p (ap (λ (m : ℕ). has (at net m) e) (sym z) ∙ q)) (λ t. free_other i l (not_j i a) t a e h (not_j e p) p q) (same_or_not i k)

      passes_too : good net want y ≡ true
      passes_too =
          let lj = shares.0 in
          let f = leb-true want.least (held 32 x want.ends) (passes-wanted net want 32 x g) in
          passes-all net want 32 y (rw (held_swapped x j k hj hk (omega arith) (omega arith) want.ends wish) f)
          (λ i l. clash-free i (at net i) y (omega arith) (free i l))
          (λ i l.
          let r = rules i l in
          obeys_swapped x j k hj hk (omega arith) (omega arith) (rule_at net i) r.0 r.1 ∙ obeyed net want 32 x g i l (rule_at net i) refl)

      between_too : Between b x → Between b y
      between_too w = record {
        above = λ i l h.
            ⊎_elim (λ z. ap (has y) z ∙ swapped_in x j k hj hk)
            (λ v. swapped_other x j k hj hk i (λ z. never (has b.must j) (ap (has b.must) (sym z) ∙ h) loose) v ∙ w.above i l h) (same_or_not i k);
        under = λ i l h.
            ⊎_elim (λ z. ap (has b.may) z ∙ may)
            (λ v. w.under i l (sym (swapped_other x j k hj hk i (not_j i h) v) ∙ h)) (same_or_not i k);
      }

    pub lacking_too : Lacking (good net want) b k → Lacking (good net want) b j
    lacking_too none x g w hj =
        ⊎_elim (λ h. none x g w h) (λ h. none (y x g hj h) (passes_too x g hj h) (between_too x g hj h w) (swapped_in x j k hj h)) (true_or_false (has x k))
