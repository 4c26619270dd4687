-- Marks of the actions that start, one taken end after another. Assumes nothing.
use mathlib.Core.Path.{◌≡◌, refl, sym, ap, ◌∙◌}
use mathlib.Core.Bool.{Bool, true, false, ◌&&◌, ◌||◌, or-false}
use mathlib.Core.List.{List}
use Prim.Native.Nat.{ℕ, ◌+◌, ◌≤◌}
use native.Mathlib.Omega.{arith}
use native.Mathlib.Numerals.{add-one}
use lib.Dec.{eqb}
use lib.ListN.{length}
use borrow.Author.Tests.{eqb-true, ne_eqb}
use Rattle.paper.specs.Lists.{at, has, one_if}
use Rattle.paper.specs.Table.{kind, is_action}
use Rattle.paper.proofs.Bools.{and_never}
use Rattle.paper.proofs.Counts.{any_below}
use Rattle.words.specs.Marks.{MarksOf, marked}
use Rattle.words.proofs.Marks.{pass_none, pass_more, pass_done}
use Rattle.table.specs.Reading.{Blank}
use Rattle.ends_masks.specs.Seating.{served}
use Rattle.choice_agree.specs.Agreeing.{starts_in}

-- ---- node x among n, marked if it is an action, on top of the marks of p
module _ (t : List ℕ) (p : ℕ → Bool) (n x : ℕ) {m : List ℕ} (h : MarksOf p n m) where
  pub action_outside : n ≤ x → MarksOf (λ i. p i || (is_action (kind t i) && eqb x i)) n m
  action_outside l = record {
    tell = λ i g.
        h.tell i g
        ∙ ap one_if
        (sym (ap (λ (b : Bool). p i || (is_action (kind t i) && b)) (ne_eqb x i (λ e. omega arith))
        ∙ ap (λ (b : Bool). p i || b) (and_never (is_action (kind t i)))
        ∙ or-false (p i)));
  }

  pub action_marked : (m' : List ℕ) {b : Bool} {i : ℕ} → n ≤ length m → m' ≡ marked m b i → b ≡ is_action (kind t i) → i ≡ x
      → MarksOf (λ i. p i || (is_action (kind t i) && eqb x i)) n m'
  action_marked m' l e eb ei =
      pass_done p (λ j. is_action (kind t x)) (λ j. x) 1 1 (λ i. p i || (is_action (kind t i) && eqb x i))
      (pass_more p (λ j. is_action (kind t x)) (λ j. x) m' 0 l e (eb ∙ ap (λ (y : ℕ). is_action (kind t y)) ei) ei
      (pass_none p (λ j. is_action (kind t x)) (λ j. x) h)) refl
      (λ i g. ap (λ (b : Bool). p i || b) (or-false (is_action (kind t x) && eqb x i) ∙ here i (eqb x i) refl))
    where
      here : (i : ℕ) (b : Bool) → eqb x i ≡ b → is_action (kind t x) && b ≡ is_action (kind t i) && b
      here i true e = ap (λ (y : ℕ). is_action (kind t y) && true) (eqb-true x i e)
      here i false e = and_never (is_action (kind t x)) ∙ sym (and_never (is_action (kind t i)))

-- ---- one end more
module _ (t target home : List ℕ) (c k : ℕ) where
  abbrev mine : ℕ → Bool
  mine i = eqb (at target k) i || eqb (at home k) i

  served-more : (i : ℕ) → served target home (k + 1) c i ≡ served target home k c i || (has c k && mine i)
  unfolding served
  served-more i = ap (λ (j : ℕ). served target home j c i) (add-one k) ∙ any_below (λ k. has c k && (eqb (at target k) i || eqb (at home k) i)) k

  -- it is taken, and its target and its home were marked if they are actions
  pub starts-taken : {n : ℕ} {m : List ℕ} → has c k ≡ true
      → MarksOf (λ i. (starts_in t target home k c i || (is_action (kind t i) && eqb (at target k) i)) || (is_action (kind t i) && eqb (at home k) i)) n m
      → MarksOf (starts_in t target home (k + 1) c) n m
  starts-taken e h = record {
    tell = λ i l.
        h.tell i l
        ∙ ap one_if
        (by (is_action (kind t i)) (served target home k c i) (eqb (at target k) i) (eqb (at home k) i)
        ∙ ap (λ (b : Bool). is_action (kind t i) && b) (sym (served-more i ∙ ap (λ (b : Bool). served target home k c i || (b && mine i)) e)));
  }
    where
      by : (a s x y : Bool) → ((a && s) || (a && x)) || (a && y) ≡ a && (s || (x || y))
      by true true x y = refl
      by true false x y = refl
      by false s x y = refl

  -- it is not taken
  pub starts-left : {n : ℕ} {m : List ℕ} → has c k ≡ false → MarksOf (starts_in t target home k c) n m → MarksOf (starts_in t target home (k + 1) c) n m
  starts-left e h = record {
    tell = λ i l.
        h.tell i l
        ∙ ap (λ (b : Bool). one_if (is_action (kind t i) && b))
        (sym (served-more i ∙ ap (λ (b : Bool). served target home k c i || (b && mine i)) e ∙ or-false (served target home k c i)));
  }

-- before the first end nothing starts
pub starts_none : (t target home : List ℕ) (c : ℕ) {n : ℕ} {m : List ℕ} → Blank m → MarksOf (starts_in t target home 0 c) n m
unfolding served
starts_none t target home c b = record { tell = λ i l. b i ∙ ap one_if (sym (and_never (is_action (kind t i)))) }
