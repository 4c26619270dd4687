-- Ladders of rows: one that ends well has passed every row. Assumes nothing.
use mathlib.Core.Path.{◌≡◌, refl, sym}
use Prim.Native.Nat.{ℕ, ◌<◌}
use native.Mathlib.Omega.{arith}
use mathlib.Core.Bool.{Bool, true, false, not}
use mathlib.Core.Option.{Option, none, some}
use borrow.Author.Tests.{not-false}
use Rattle.paper.specs.Lists.{lowest}
use Rattle.paper.specs.Answers.{Answer, refused, good, ◌>>=◌, refuse_if, need, known}
use Rattle.paper.proofs.Lists.{lowest-is-none}

-- a refusal is no value
pub no_good : {A B : Type 0} {n p : ℕ} {a : A} → refused n p ≡ good a → B
no_good {n = n} {p = p} {a = a} h = let z : ◌≡◌ {A = ℕ} 0 1 = cc in absurd (omega arith)

-- an answer gives one value
pub same_good : {A : Type 0} {x y : A} → ◌≡◌ {A = Answer A} (good x) (good y) → x ≡ y
same_good h = cc

-- a row that only lets by or refuses
pub need-refused : (k : ℕ) (v : Bool) (n p : ℕ) → refused n p ≡ need k v → (v ≡ false) × (n ≡ k) × (p ≡ 0)
need-refused k true n p h = no_good h
need-refused k false n p h = (refl, cc h, cc h)

pub need-passed : (k : ℕ) (v : Bool) → good tt ≡ need k v → v ≡ true
need-passed k true h = refl
need-passed k false h = no_good (sym h)

module _ {A : Type 0} where
  pub row-good : {B : Type 0} (r : Answer B) (f : B → Answer A) (a : A) → r >>= f ≡ good a → (x : B) × (r ≡ good x) × (f x ≡ good a)
  row-good (refused n p) f a h = no_good h
  row-good (good x) f a h = (x, refl, h)

  pub need-good : (n : ℕ) (b : Bool) (f : Unit {0} → Answer A) (a : A) → need n b >>= f ≡ good a → (b ≡ true) × (f tt ≡ good a)
  need-good n true f a h = (refl, h)
  need-good n false f a h = no_good h

  pub refuse_good : (n : ℕ) (o : Option ℕ) (f : Unit {0} → Answer A) (a : A) → refuse_if n o >>= f ≡ good a → (o ≡ none) × (f tt ≡ good a)
  refuse_good n none f a h = (refl, h)
  refuse_good n (some p) f a h = no_good h

  pub known-good : {B : Type 0} (n : ℕ) (o : Option B) (f : B → Answer A) (a : A) → known n o >>= f ≡ good a → (x : B) × (o ≡ some x) × (f x ≡ good a)
  known-good n none f a h = no_good h
  known-good n (some x) f a h = (x, refl, h)

-- the last row
pub refuse_none : (n : ℕ) (o : Option ℕ) → refuse_if n o ≡ good tt → o ≡ none
refuse_none n none h = refl
refuse_none n (some p) h = no_good h

-- a row that looks for the lowest that fails
pub all_pass : (n : ℕ) (p : ℕ → Bool) (m : ℕ) → refuse_if n (lowest (λ i. not (p i)) m) ≡ good tt → (i : ℕ) → i < m → p i ≡ true
all_pass n p m h i l = not-false (p i) (lowest-is-none (λ k. not (p k)) m (refuse_none n _ h) i l)
