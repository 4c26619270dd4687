-- The nodes at which something is taken: to the others nothing comes, and they don't start. Assumes nothing.
use mathlib.Core.Path.{◌≡◌, refl, sym, ap, ◌∙◌}
use Prim.Native.Nat.{ℕ, ◌≤◌, ◌<◌}
use native.Mathlib.Omega.{arith}
use mathlib.Core.Bool.{Bool, true, false, not, ◌&&◌, ◌||◌, cond}
use mathlib.Core.List.{List, [], ◌∷◌, ◌++◌}
use lib.Dec.{eqb}
use lib.ListN.{length}
use lib.Seq.{sets}
use Rattle.paper.specs.Lists.{at, has, below, any, gather}
use Rattle.paper.specs.Bytes.{four}
use Rattle.paper.specs.Table.{kind, is_action}
use Rattle.paper.proofs.Bools.{never}
use Rattle.words.specs.Marks.{MarksOf, is_marked, placed}
use Rattle.words.proofs.Marks.{mark_test}
use Rattle.ends_masks.specs.Seating.{served}
use Rattle.marking_held.proofs.Fillings.{filled_as}
use Rattle.step_gain.specs.Gains.{brought, coming, starts, Started}

-- ---- nodes to which no end of the word goes
module _ (target row value : List ℕ) (w i : ℕ) where
  gathered_none : (ks : List ℕ) → any (λ k. has w k && eqb (at target k) i) ks ≡ false → gather (brought target row value w i) ks ≡ []
  gathered_none [] e = refl
  gathered_none (k ∷ ks) e = by (has w k) (eqb (at target k) i) e (gathered_none ks)
    where
      by : (h g : Bool) → (h && g) || any (λ k. has w k && eqb (at target k) i) ks ≡ false
          → (any (λ k. has w k && eqb (at target k) i) ks ≡ false → gather (brought target row value w i) ks ≡ [])
          → cond (h && g) (at value (at row k) ∷ []) [] ++ gather (brought target row value w i) ks ≡ []
      by true true z r = never true refl z
      by true false z r = r z
      by false g z r = r z

  pub coming_nowhere : (n : ℕ) → placed (has w) (at target) n i ≡ false → coming target row value w n i ≡ []
  unfolding coming
  coming_nowhere n e = gathered_none (below n) e

  -- so nothing is stored for them
  pub nothing_came : {marks : List ℕ} {most : ℕ} (n : ℕ) (extra : List ℕ) (place : ℕ) → MarksOf (placed (has w) (at target) n) most marks → i < most
      → at marks i ≡ 0
      → (0 ≡ length (coming target row value w n i)) × (extra ≡ sets extra place (gather four (coming target row value w n i)))
  nothing_came n extra place m l e =
      let z = coming_nowhere n (sym (mark_test m i l) ∙ ap (λ (x : ℕ). not (eqb x 0)) e) in
      (sym (rw z), sym (rw z))

-- ---- nodes to which a taken end belongs
pub touched_served : (target home : List ℕ) (n c i : ℕ) → placed (has c) (at target) n i || placed (has c) (at home) n i ≡ served target home n c i
unfolding served
touched_served target home n c i = either (below n)
  where
    by : (h a b x y z : Bool) → x || y ≡ z → ((h && a) || x) || ((h && b) || y) ≡ (h && (a || b)) || z
    by true true b x y z e = refl
    by true false true true y z e = refl
    by true false true false y z e = refl
    by true false false x y z e = e
    by false a b x y z e = e

    either : (ks : List ℕ)
        → any (λ k. has c k && eqb (at target k) i) ks || any (λ k. has c k && eqb (at home k) i) ks
        ≡ any (λ k. has c k && (eqb (at target k) i || eqb (at home k) i)) ks
    either [] = refl
    either (k ∷ ks) =
        by (has c k) (eqb (at target k) i) (eqb (at home k) i) (any (λ k. has c k && eqb (at target k) i) ks) (any (λ k. has c k && eqb (at home k) i) ks)
        (any (λ k. has c k && (eqb (at target k) i || eqb (at home k) i)) ks) (either ks)

-- what was done by the marks was done where an action starts
pub started_marked : (t target home : List ℕ) (n c : ℕ) {marks old new : List ℕ} {most k : ℕ} → MarksOf (served target home n c) most marks → k ≤ most
    → Started (λ i. is_action (kind t i) && is_marked marks i) old new k → Started (starts t target home n c) old new k
unfolding starts
started_marked t target home n c {old = old} m l f =
    filled_as f (λ i. cond (starts t target home n c i) 1 (at old i))
    (λ i z. ap (λ (b : Bool). cond (is_action (kind t i) && b) 1 (at old i)) (mark_test m i (omega arith)))
