-- Laws of tokens gained. Assumes nothing.
use mathlib.Core.Path.{◌≡◌, refl, sym, ◌∙◌}
use Prim.Native.Nat.{ℕ, suc, ◌+◌, ◌≤◌, ◌<◌}
use native.Mathlib.Omega.{arith}
use mathlib.Core.Bool.{Bool, true, false, ◌&&◌}
use mathlib.Core.List.{List}
use mathlib.Core.Logic.{⊎_elim}
use lib.Dec.{leb, eqb}
use lib.ListN.{length, set}
use lib.Seq.{get_or-set_other}
use borrow.Author.Tests.{lt-ltb, le-leb}
use borrow.Author.Count.{below_more}
use Rattle.paper.specs.Lists.{at}
use Rattle.paper.specs.Table.{edges, kind, source}
use Rattle.paper.specs.Marking.{counted, has_tokens}
use Rattle.paper.proofs.Bools.{never, and-true, true_or_false}
use Rattle.paper.proofs.Lists.{below_all, all_fails}
use Rattle.marking_held.proofs.HoldingLaws.{set_more}
use Rattle.marking_give.specs.declared.Firing.{Firing}
use Rattle.marking_give.specs.declared.Firing.TheVariants.{Kind, Node}
use Rattle.marking_give.specs.Giving.{fires_as, CountsHeld, Gained, gained}

pub counted_has : (t : List ℕ) (j : ℕ) → j < edges t → has_tokens t j ≡ counted t j
counted_has t j l = rw (lt-ltb j (edges t) l)

module _ (t : List ℕ) (fires : ℕ → Bool) (held : ℕ → ℕ) (tokens₀ : List ℕ) (h : CountsHeld t held tokens₀) (small : (k : ℕ) → at tokens₀ k < 256) where
  -- the edges below j have gained, and the others are as they were
  pub record GainedTo (tokens : List ℕ) (j : ℕ) : Type 0 where
    pub below_j : (k : ℕ) → k < j → (counted t k ≡ true → at tokens k ≡ gained t fires held k) × (leb (gained t fires held k) 255 ≡ true)
    pub rest : (k : ℕ) → j ≤ k → at tokens k ≡ at tokens₀ k

  module _ (tokens : List ℕ) (j : ℕ) (l : j < edges t) (g : GainedTo tokens j) {c : Bool} (q : c ≡ has_tokens t j && fires (source t j)) where
    pub gained-full : c ≡ true → at tokens j ≡ 255 → leb (gained t fires held j) 255 ≡ false
    gained-full p f =
        let e = sym q ∙ p in
        let c = sym (counted_has t j l) ∙ (and-true (has_tokens t j) _ e).0 in
        let x : held j ≡ 255 = sym (h.counts j l c) ∙ sym (g.rest j (omega arith)) ∙ f in
        rw (e, x)

    pub gained-one : j < length tokens → c ≡ true → (at tokens j ≡ 255 → ⊥) → GainedTo (set tokens j (at tokens j + 1)) (j + 1)
    gained-one lt p f =
        let e = sym q ∙ p in
        let c = sym (counted_has t j l) ∙ (and-true (has_tokens t j) _ e).0 in
        let x : at tokens j ≡ held j = g.rest j (omega arith) ∙ h.counts j l c in
        let y : gained t fires held j ≡ suc (held j) = rw e in
        record {
          below_j = set_more (λ k v. (counted t k ≡ true → v ≡ gained t fires held k) × (leb (gained t fires held k) 255 ≡ true)) tokens j
              (at tokens j + 1) lt g.below_j
              (λ c. omega arith, le-leb (gained t fires held j) 255 (omega (arith, small j, g.rest j (omega arith))));
          rest = λ k n. let d : k ≡ j → ⊥ = λ z. omega arith in get_or-set_other tokens j k (at tokens j + 1) 0 d ∙ g.rest k (omega arith);
        }

    pub gained-none : c ≡ false → GainedTo tokens (j + 1)
    gained-none p =
        let e = sym q ∙ p in
        let y : gained t fires held j ≡ held j = rw e in
        record {
          below_j = below_more (λ k. (counted t k ≡ true → at tokens k ≡ gained t fires held k) × (leb (gained t fires held k) 255 ≡ true)) j g.below_j (
            λ c. g.rest j (omega arith) ∙ h.counts j l c ∙ sym y,
            le-leb (gained t fires held j) 255 (⊎_elim (λ c. omega (arith, small j, h.counts j l c))
                (λ c. omega (arith, h.none j l (counted_has t j l ∙ c))) (true_or_false (counted t j))),
          );
          rest = λ k n. g.rest k (omega arith);
        }

  pub gained-all : (tokens : List ℕ) → GainedTo tokens (edges t) → Gained t (gained t fires held) tokens true
  gained-all tokens g = (sym (below_all (λ e. leb (gained t fires held e) 255) (edges t) (λ k l. (g.below_j k l).1)), λ r k l. (g.below_j k l).0)

  pub gained-not : (tokens : List ℕ) (j : ℕ) → j < edges t → leb (gained t fires held j) 255 ≡ false → Gained t (gained t fires held) tokens false
  gained-not tokens j l e = (sym (all_fails (λ e. leb (gained t fires held e) 255) (edges t) j l e), λ r. never false r refl)

-- of the edges whose source fires those with a count gain
module _ (t : List ℕ) (j : ℕ) (f : Firing) where
  pub gains_count : j < edges t → {s : ℕ} {c d : Bool} → s ≡ source t j → c ≡ fires_as t f s → c ≡ true → d ≡ counted t j
      → d ≡ has_tokens t j && fires_as t f (source t j)
  gains_count l e q h k = k ∙ sym (counted_has t j l) ∙ sym (rw (← e, ← q, h) (by (has_tokens t j)))
    where
      by : (b : Bool) → b && true ≡ b
      by true = refl
      by false = refl
