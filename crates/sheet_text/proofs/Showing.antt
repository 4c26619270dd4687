-- Laws of the text that a sheet's bytes have: record by record. Assumes nothing.
use mathlib.Core.Path.{◌≡◌, refl}
use mathlib.Core.List.{List, [], ◌∷◌, ◌++◌, append_assoc}
use Prim.Native.Nat.{ℕ, zero, suc, ◌+◌, ◌-◌, ◌≤◌, ◌<◌}
use native.Mathlib.Omega.{arith}
use native.Mathlib.Numerals.{add-one}
use lib.ListN.{length, take, drop}
use lib.Seq.{take-length}
use borrow.Author.Tests.{ne_eqb}
use Rattle.paper.specs.Lists.{at}
use Rattle.paper.specs.Table.{target, edges}
use Rattle.paper.specs.Program.{decimal, commas, refusal_text}
use Rattle.paper.specs.Bytes.{word_at}
use Rattle.sheet_text.specs.Printed.{path_over, paths_over, path_printed, paths_printed, value_printed, head_printed, end_over, end_printed, ends_over, ends_printed, EndsFit, count_printed, pick_printed}

module _ (s : List ℕ) where
  -- ---- a value
  pub value_none : (p : ℕ) → at s p ≡ 0 → 32 ∷ 45 ∷ [] ≡ value_printed s p
  unfolding value_printed
  value_none p e = rw e

  pub value-some : (p v : ℕ) → (at s p ≡ 0 → ⊥) → v ≡ word_at s (p + 1) → 32 ∷ decimal v ≡ value_printed s p
  unfolding value_printed
  value-some p v n e = rw (ne_eqb (at s p) 0 n, e)

  -- ---- paths
  pub path-is : (p n : ℕ) → n ≡ at s p → 32 ∷ commas (take n (drop (p + 1) s)) ≡ path_printed s p
  unfolding path_printed
  path-is p n e = rw e

  pub paths_grow : (p m : ℕ) → p ≤ paths_over s p m
  unfolding paths_over
  paths_grow p zero = omega arith
  paths_grow p (suc m) = omega (arith, paths_grow (path_over s p) m)

  module _ (p j m : ℕ) (l : j < m) where
    one_left : m - j ≡ suc (m - (j + 1))
    one_left = omega arith

    pub paths-on : paths_over s p (m - j) ≡ paths_over s (p + (1 + at s p)) (m - (j + 1))
    unfolding paths_over
    paths-on = rw one_left

    pub paths-next : paths_printed s p (m - j) ≡ path_printed s p ++ paths_printed s (p + (1 + at s p)) (m - (j + 1))
    unfolding paths_printed
    paths-next = rw one_left

  module _ (p j m : ℕ) (l : m ≤ j) where
    none_left : m - j ≡ 0
    none_left = omega arith

    pub paths-end : paths_over s p (m - j) ≡ p
    unfolding paths_over
    paths-end = rw none_left

    pub paths-none : paths_printed s p (m - j) ≡ []
    unfolding paths_printed
    paths-none = rw none_left

  -- ---- ends
  pub end_grow : (p : ℕ) → p + 7 ≤ end_over s p
  unfolding end_over
  end_grow p = paths_grow (p + 7) (at s (p + 6))

  pub end-over : (p m : ℕ) → m ≡ at s (p + 6) → paths_over s (p + 7) m ≡ end_over s p
  unfolding end_over
  end-over p m e = rw e

  pub ends_grow : (p n : ℕ) → p ≤ ends_over s p n
  unfolding ends_over
  ends_grow p zero = omega arith
  ends_grow p (suc n) = omega (arith, end_grow p, ends_grow (end_over s p) n)

-- ---- the line of an end
pub head-is : (t s : List ℕ) (p k e g : ℕ) → e ≡ at s p → g ≡ target t e → decimal k ++ (32 ∷ decimal e) ++ (32 ∷ decimal g) ++ value_printed s (p + 1) ≡ head_printed t s p k
unfolding head_printed
head-is t s p k e g h i = rw (i, h)

pub end_is : (t s : List ℕ) (p k m : ℕ) → m ≡ at s (p + 6) → head_printed t s p k ++ paths_printed s (p + 7) m ++ (10 ∷ []) ≡ end_printed t s p k
unfolding end_printed
end_is t s p k m e = rw e

-- ---- the lines of ends
module _ (t s : List ℕ) where
  pub fit_whole : (p n : ℕ) → EndsFit t s p n → EndsFit t s p (n - 0)
  fit_whole p n f = let e : n - 0 ≡ n = omega arith in rw e f

  module _ (p k n : ℕ) (l : k < n) where
    one_end : n - k ≡ suc (n - (k + 1))
    one_end = omega arith

    pub ends_on : ends_over s p (n - k) ≡ ends_over s (end_over s p) (n - (k + 1))
    unfolding ends_over
    ends_on = rw one_end

    pub ends_next : ends_printed t s p k (n - k) ≡ end_printed t s p k ++ ends_printed t s (end_over s p) (k + 1) (n - (k + 1))
    unfolding ends_printed
    ends_next = rw (one_end, add-one k)

    pub fit_here : EndsFit t s p (n - k) → (at s p < edges t) × EndsFit t s (end_over s p) (n - (k + 1))
    unfolding EndsFit
    fit_here f = rw one_end at f

  module _ (p k n : ℕ) (l : n ≤ k) where
    no_end : n - k ≡ 0
    no_end = omega arith

    pub ends-end : ends_over s p (n - k) ≡ p
    unfolding ends_over
    ends-end = rw no_end

    pub ends-none : ends_printed t s p k (n - k) ≡ []
    unfolding ends_printed
    ends-none = rw no_end

-- ---- the first line and the last
pub count-is : (n : ℕ) → (101 ∷ 110 ∷ 100 ∷ 115 ∷ []) ++ (32 ∷ decimal n) ++ (10 ∷ []) ≡ count_printed n
unfolding count_printed
count-is n = refl

pub pick_is : (ks : List ℕ) → (112 ∷ 105 ∷ 99 ∷ 107 ∷ 32 ∷ []) ++ commas (take (length ks) (drop 0 ks)) ++ (10 ∷ []) ≡ pick_printed ks
unfolding pick_printed
pick_is ks = rw (take-length ks)

-- ---- a refusal
pub refusal_is : (n p : ℕ) → (114 ∷ 101 ∷ 102 ∷ 117 ∷ 115 ∷ 101 ∷ 100 ∷ []) ++ (32 ∷ decimal n) ++ (32 ∷ decimal p) ++ (10 ∷ []) ≡ refusal_text n p
refusal_is n p = simp append_assoc
