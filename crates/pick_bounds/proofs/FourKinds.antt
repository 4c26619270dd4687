-- Clash, need, floor and cap as rules: each obeys its rule exactly if its plain words hold. Assumes nothing.
use mathlib.Core.Path.{◌≡◌, refl, sym, ap, ◌∙◌}
use mathlib.Core.Logic.{⊎_elim}
use mathlib.Core.Bool.{Bool, true, false, not, ◌&&◌}
use Prim.Native.Nat.{ℕ, ◌≤◌, ◌<◌}
use native.Mathlib.Omega.{arith}
use lib.Dec.{leb}
use borrow.Author.Tests.{leb-true, leb-false, le-leb, lt-leb}
use Rattle.paper.specs.Lists.{has, ◌⇒◌}
use Rattle.paper.proofs.Bools.{true_or_false}
use Rattle.pick_bounds.specs.Net.{held, meets, obeys, clash_rule, need_rule, floor, cap}
use Rattle.pick_bounds.proofs.Sets.{meets-held, meets-one, held_most}

if_same : (a b c : Bool) → b ≡ c → a ⇒ b ≡ a ⇒ c
if_same true b c h = h
if_same false b c h = refl

module _ (m c : ℕ) where
  -- with one of whens, at least lo of those
  pub floor_obeyed : (whens those lo : ℕ) → m ≤ 32 → obeys m (floor whens those lo) c ≡ meets m c whens ⇒ leb lo (held m c those)
  unfolding obeys
  floor_obeyed whens those lo l =
      let e : leb (held m c those) 32 ≡ true = le-leb (held m c those) 32 (let h = held_most m c those in omega arith) in
      if_same (meets m c whens) _ (leb lo (held m c those)) (rw e (right (leb lo (held m c those))))
    where
      right : (b : Bool) → b && true ≡ b
      right true = refl
      right false = refl

  -- with one of whens, one of these
  pub need_obeyed : (whens these : ℕ) → m ≤ 32 → obeys m (need_rule whens these) c ≡ meets m c whens ⇒ meets m c these
  need_obeyed whens these l = floor_obeyed whens these 1 l ∙ ap (λ b. meets m c whens ⇒ b) (sym (meets-held m c these))

  -- at most hi of them
  pub cap_obeyed : (them hi : ℕ) → obeys m (cap them hi) c ≡ leb (held m c them) hi
  unfolding obeys
  cap_obeyed them hi =
      ⊎_elim (λ h. rw (h, le-leb 0 (held m c them) (omega arith)))
      (λ h. let z = leb-false 1 (held m c them) (sym (meets-held m c them) ∙ h) in rw h (sym (le-leb (held m c them) hi (omega arith))))
      (true_or_false (meets m c them))

  -- end i never with one of its rivals
  pub clash_obeyed : (i rivals : ℕ) → i < m → obeys m (clash_rule i rivals) c ≡ not (has c i && meets m c rivals)
  unfolding obeys
  clash_obeyed i rivals l =
      rw (meets-one m c i l, meets-held m c rivals, le-leb 0 (held m c rivals) (omega arith)) (by (has c i) (held m c rivals))
    where
      by : (t : Bool) (h : ℕ) → t ⇒ leb h 0 ≡ not (t && leb 1 h)
      by false h = refl
      by true h =
          ⊎_elim (λ e. let z = leb-true 1 h e in rw (e, lt-leb h 0 (omega arith)))
          (λ e. let z = leb-false 1 h e in rw (e, le-leb h 0 (omega arith))) (true_or_false (leb 1 h))
