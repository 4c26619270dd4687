-- Numbers under a bound: one that is under it or 0, and lists of which every entry is. Assumes nothing.
use mathlib.Core.Path.{◌≡◌, refl}
use Prim.Native.Nat.{ℕ, zero, suc, ◌+◌, ◌≤◌, ◌<◌}
use native.Mathlib.Omega.{arith}
use mathlib.Core.Bool.{Bool, true, false, cond}
use mathlib.Core.List.{List, [], ◌∷◌, ◌++◌}
use lib.ListN.{drop}
use lib.Seq.{get_or-drop}
use Rattle.paper.specs.Lists.{at, gather}
use Rattle.paper.proofs.Members.{In, here, later}

-- at most u where there may be any, otherwise 0
pub most_if : (c : Bool) (n u : ℕ) → (c ≡ true → n ≤ u) → (c ≡ false → n ≡ 0) → n ≤ cond c u 0
most_if true n u h k = h refl
most_if false n u h k = omega (arith, k refl)

-- every entry is under n
abbrev pub Under : ℕ → List ℕ → Type 0
Under n b = (i : ℕ) → at b i < n

module _ (n : ℕ) where
  pub under_nil : 0 < n → Under n []
  under_nil h i = h

  pub under_cons : (x : ℕ) (b : List ℕ) → x < n → Under n b → Under n (x ∷ b)
  under_cons x b h u zero = h
  under_cons x b h u (suc i) = u i

  pub under_tail : (x : ℕ) (b : List ℕ) → Under n (x ∷ b) → Under n b
  under_tail x b u i = u (suc i)

  pub under_append : (a b : List ℕ) → Under n a → Under n b → Under n (a ++ b)
  under_append [] b u v = v
  under_append (x ∷ a) b u v = under_cons x (a ++ b) (u 0) (under_append a b (under_tail x a u) v)

  pub under_left : (a b : List ℕ) → 0 < n → Under n (a ++ b) → Under n a
  under_left [] b h u = under_nil h
  under_left (x ∷ a) b h u = under_cons x a (u 0) (under_left a b h (under_tail x (a ++ b) u))

  pub under_right : (a b : List ℕ) → Under n (a ++ b) → Under n b
  under_right [] b u = u
  under_right (x ∷ a) b u = under_right a b (under_tail x (a ++ b) u)

  pub under-gather : {A : Type 0} (w : A → List ℕ) (xs : List A) → 0 < n → ((x : A) → In x xs → Under n (w x)) → Under n (gather w xs)
  under-gather w [] h u = under_nil h
  under-gather w (x ∷ xs) h u = under_append (w x) (gather w xs) (u x (here refl)) (under-gather w xs h (λ y m. u y (later m)))

  pub under_drop : (b : List ℕ) (k : ℕ) → Under n b → Under n (drop k b)
  under_drop b k u i = rw (get_or-drop k b i 0) (u (k + i))
