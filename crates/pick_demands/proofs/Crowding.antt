-- How many ends go together: rivals, and groups of rivals. Assumes nothing.
use mathlib.Core.Path.{◌≡◌, refl, sym, ap, ◌∙◌}
use mathlib.Core.Logic.{⊎_elim}
use mathlib.Core.Bool.{Bool, true, false, not, ◌&&◌, ◌||◌}
use mathlib.Core.List.{List}
use Prim.Native.Nat.{ℕ, ◌+◌, ◌^◌, ◌≤◌, ◌<◌}
use native.Mathlib.Omega.{arith}
use lib.Bits.{bit_and, bit_or}
use Rattle.paper.specs.Lists.{at, has}
use Rattle.paper.proofs.Bools.{never, and-true, and_never, true_or_false, false_if}
use Rattle.paper.specs.Limits.{limits}
use Rattle.pick_bounds.specs.declared.Wanted.{Wanted}
use Rattle.pick_bounds.specs.Net.{held, meets}
use Rattle.pick_bounds.specs.Bounds.{good, Without}
use Rattle.pick_bounds.proofs.Sets.{has-and, has_or, has_power, meets-none, meets-one, meets-zero, meets_or, held_none, held_power, held_most, cover, apart_power, less_part}
use Rattle.pick_bounds.proofs.Rules.{rivals_obeyed}
use Rattle.pick_bounds.proofs.FourKinds.{clash_obeyed}
use Rattle.pick_demands.specs.declared.Group.{Group}
use Rattle.pick_demands.specs.Demands.{Shuns, Most, Huddled}

-- ---- rivals
pub shuns_net : (net : List ℕ) (want : Wanted) (k : ℕ) → k < limits.most_ends → Shuns (good net want) k (at net k)
shuns_net net want k l = λ x e h.
    by (has x k) (meets 32 x (at net k)) h (sym (clash_obeyed 32 x k (at net k) (omega arith)) ∙ rivals_obeyed net want 32 x e k l)
  where
    by : (a b : Bool) → a ≡ true → not (a && b) ≡ true → b ≡ false
    by true true e f = never false f refl
    by true false e f = refl
    by false b e f = never false e refl

-- ---- groups
-- a group grows by a rival of all in it
module _ (h : Group) (foes k end rest : ℕ) (small : k < 32) (is-end : end ≡ 2 ^ k) (among : meets 32 h.common end ≡ true) (left : Without (bit_and h.common foes) end rest) where
  there : has h.common k ≡ true
  there = sym (meets-one 32 h.common k small) ∙ ap (meets 32 h.common) (sym is-end) ∙ among

  stays : (j : ℕ) → has rest j ≡ true → (has h.common j ≡ true) × (has foes j ≡ true)
  stays j e =
      and-true (has h.common j) (has foes j) (sym (has-and h.common foes j) ∙ (and-true (has (bit_and h.common foes) j) (not (has end j)) (sym (left j) ∙ e)).0)

  pub huddled_more : (p : ℕ → Bool) → Shuns p k foes → Huddled p h → Huddled p (record { ends = bit_or h.ends end; common = rest })
  huddled_more p s d = rw is-end (record {
    lone = λ x e.
        let u = cover x (bit_or h.ends (2 ^ k)) h.ends (2 ^ k) (λ j i. sym (has_or h.ends (2 ^ k) j) ∙ i) in
        ⊎_elim (λ i. let z = held_none x h.ends (d.apart k small there x e i) in let w = held_power x k in omega arith)
        (λ i. let z = held_none x (2 ^ k) (apart_power 32 x k i) in let w = d.lone x e in omega arith) (true_or_false (has x k));
    apart = λ j i c x e y.
        let r = stays j c in
        meets_or x h.ends (2 ^ k) (d.apart j i r.0 x e y)
        (apart_power 32 x k (false_if (has x k) (λ g. never (has foes j) r.1 (meets-none 32 x foes (s x e g) j i y))));
  })

  -- and the ends in common become fewer
  pub common_less : rest < 2 ^ 32 → rest < h.common
  common_less l = less_part 32 h.common rest k l (λ j i e. (stays j e).0) there (left k ∙ rw (ap (λ (z : ℕ). has z k) is-end ∙ has_power k) (and_never (has (bit_and h.common foes) k)))

pub apart_stays : (c k end : ℕ) → k < 32 → end ≡ 2 ^ k → meets 32 c end ≡ false → has c k ≡ true → ⊥
apart_stays c k end l q m h = never (has c k) h (sym (meets-one 32 c k l) ∙ ap (meets 32 c) (sym q) ∙ m)

module _ (p : ℕ → Bool) where
  pub huddled_none : (c : ℕ) → Huddled p (record { ends = 0; common = c })
  huddled_none c = record { lone = λ x e. omega (arith, held_none x 0 (meets-zero x)); apart = λ k l h x e y. meets-zero x }

  -- ---- how many go together
  pub most_all : (ends : ℕ) → Most p ends 32
  most_all ends = λ x e. held_most 32 x ends

  pub most_less : (ends left group rest most : ℕ) → ((x : ℕ) → p x ≡ true → held 32 x ends ≤ most + held 32 x left) → Most p group 1 → Without left group rest
      → (x : ℕ) → p x ≡ true → held 32 x ends ≤ (most + 1) + held 32 x rest
  most_less ends left group rest most h g w x e =
      let a = h x e in
      let b = g x e in
      omega (arith, cover x left rest group (λ k i. by (has left k) (has group k) (has rest k) i (w k)))
    where
      by : (l g r : Bool) → l ≡ true → r ≡ l && not g → r || g ≡ true
      by true true true e f = refl
      by true true false e f = refl
      by true false true e f = refl
      by true false false e f = f
      by false g r e f = never false e refl

  pub most_done : (ends most : ℕ) → ((x : ℕ) → p x ≡ true → held 32 x ends ≤ most + held 32 x 0) → Most p ends most
  most_done ends most h = λ x e. omega (arith, h x e, held_none x 0 (meets-zero x))
