-- "Big-endian, length first": numbers as bytes, and reading bytes from the front. Assumes nothing.
use Rattle.std.specs.Prelude.{ℕ, zero, suc, ◌+◌, ◌*◌, ◌/◌, ◌%◌, Bool, cond, List, [], ◌∷◌, ◌++◌, leb, eqb, length}
use Rattle.std.proofs.Math.Option.{Option, none, some}
use Rattle.paper.specs.Lists.{at, gather}

-- ---- writing
abbrev pub two : ℕ → List ℕ
two n = n / 256 % 256 ∷ n % 256 ∷ []

abbrev pub four : ℕ → List ℕ
four v = v / 16777216 % 256 ∷ v / 65536 % 256 ∷ v / 256 % 256 ∷ v % 256 ∷ []

-- "Bytes 0-1 give the number of bytes after them"
abbrev pub sized : List ℕ → List ℕ
sized b = two (length b) ++ b

-- "a count and that many 4-byte values"
abbrev pub listed : List ℕ → List ℕ
listed vs = length vs ∷ gather four vs

-- ---- reading
-- the slice is the whole frame: one byte more or less is none
abbrev pub framed : List ℕ → Bool
framed b = eqb (at b 0 * 256 + at b 1 + 2) (length b)

-- the number in the four bytes from a place on
abbrev pub word_at : List ℕ → ℕ → ℕ
word_at b from = ((at b from * 256 + at b (from + 1)) * 256 + at b (from + 2)) * 256 + at b (from + 3)

-- what is read, and the bytes after it; none where the bytes don't fit
abbrev pub Reader : Type 0 → Type 0
Reader A = List ℕ → Option (A × List ℕ)

abbrev pub go_on : {A B : Type 0} → Option (A × List ℕ) → (A → Reader B) → Option (B × List ℕ)
go_on none f = none
go_on (some x) f = f x.0 x.1

infixl 20 ◌>>=◌
abbrev pub ◌>>=◌ : {A B : Type 0} → Reader A → (A → Reader B) → Reader B
◌>>=◌ r f b = go_on (r b) f

abbrev pub done : {A : Type 0} → A → Reader A
done a b = some (a, b)

abbrev pub fail : {A : Type 0} → Reader A
fail b = none

abbrev pub byte : Reader ℕ
byte [] = none
byte (x ∷ xs) = some (x, xs)

-- a byte that is at most n
abbrev pub up_to : ℕ → Reader ℕ
up_to n = do
  x ← byte
  cond (leb x n) (done x) fail

unfoldable pub word : Reader ℕ
word = do
  a ← byte
  b ← byte
  c ← byte
  d ← byte
  done (((a * 256 + b) * 256 + c) * 256 + d)

abbrev pub times : {A : Type 0} → ℕ → Reader A → Reader (List A)
times zero r = done []
times (suc n) r = do
  x ← r
  xs ← times n r
  done (x ∷ xs)

abbrev pub each_read : {A B : Type 0} → (A → Reader B) → List A → Reader (List B)
each_read r [] = done []
each_read r (i ∷ is) = do
  x ← r i
  xs ← each_read r is
  done (x ∷ xs)

-- a count up to `most` and that many 4-byte values
unfoldable pub values_read : ℕ → Reader (List ℕ)
values_read most = do
  n ← up_to most
  times n word

-- all of the bytes, nothing left over
abbrev pub whole : {A : Type 0} → Option (A × List ℕ) → Option A
whole none = none
whole (some x) = cond (eqb (length x.1) 0) (some x.0) none
