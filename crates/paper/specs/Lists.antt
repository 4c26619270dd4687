-- Plain words on lists and numbers that the other modules use. Assumes nothing.
use Rattle.std.specs.Prelude.{ℕ, zero, suc, ◌/◌, ◌%◌, ◌^◌, Bool, true, false, ◌&&◌, ◌||◌, cond, List, [], ◌∷◌, ◌++◌, leb, eqb, get_or}
use Rattle.std.proofs.Math.Option.{Option, none, some}

-- if the first, then the second
infixr 25 ◌⇒◌
abbrev pub ◌⇒◌ : Bool → Bool → Bool
◌⇒◌ true b = b
◌⇒◌ false b = true

abbrev pub within : ℕ → ℕ → ℕ → Bool
within a b x = leb a x && leb x b

abbrev pub one_if : Bool → ℕ
one_if true = 1
one_if false = 0

-- entry i of a list of numbers, 0 past its end
abbrev pub at : List ℕ → ℕ → ℕ
at b i = get_or b i 0

-- i, i + 1, .. : n of them
abbrev pub from : ℕ → ℕ → List ℕ
from i zero = []
from i (suc n) = i ∷ from (suc i) n

-- the numbers below n
abbrev pub below : ℕ → List ℕ
below n = from 0 n

module _ {A : Type 0} where
  abbrev pub all : (A → Bool) → List A → Bool
  all p [] = true
  all p (x ∷ xs) = p x && all p xs

  abbrev pub any : (A → Bool) → List A → Bool
  any p [] = false
  any p (x ∷ xs) = p x || any p xs

  -- those that pass, in their order
  abbrev pub keep : (A → Bool) → List A → List A
  keep p [] = []
  keep p (x ∷ xs) = cond (p x) (x ∷ keep p xs) (keep p xs)

  -- the first that passes
  abbrev pub find : (A → Bool) → List A → Option A
  find p [] = none
  find p (x ∷ xs) = cond (p x) (some x) (find p xs)

  -- how many pass
  abbrev pub count : (A → Bool) → List A → ℕ
  count p [] = 0
  count p (x ∷ xs) = cond (p x) (suc (count p xs)) (count p xs)

module _ {A B : Type 0} where
  abbrev pub each : (A → B) → List A → List B
  each f [] = []
  each f (x ∷ xs) = f x ∷ each f xs

  -- the lists of all, one after another
  abbrev pub gather : (A → List B) → List A → List B
  gather f [] = []
  gather f (x ∷ xs) = f x ++ gather f xs

-- the lowest number below n that passes
abbrev pub lowest : (ℕ → Bool) → ℕ → Option ℕ
lowest p n = find p (below n)

-- a set of numbers as a number: whether k is in c, by digit k
abbrev pub has : ℕ → ℕ → Bool
has c k = eqb (c / 2 ^ k % 2) 1
