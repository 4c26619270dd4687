-- The readers at a place of the bytes, for code that goes by positions. Assumes nothing.
use mathlib.Core.Path.{◌≡◌, refl}
use Prim.Native.Nat.{ℕ, zero, suc, ◌+◌, ◌*◌, ◌≤◌, ◌<◌}
use native.Mathlib.Omega.{arith}
use native.Mathlib.Numerals.{add-one}
use mathlib.Core.List.{List, [], ◌∷◌}
use mathlib.Core.Option.{none, some}
use borrow.Author.Tests.{le-leb, lt-leb}
use lib.ListN.{length, drop, length-drop, drop_of_length-le}
use lib.Seq.{drop-cons}
use Rattle.paper.specs.Lists.{at}
use Rattle.paper.specs.Bytes.{byte, up_to, word, word_at, times, values_read}
use Rattle.paper.proofs.Lengths.{drop-four}

-- the n values in the bytes from a place on
abbrev pub words_at : List ℕ → ℕ → ℕ → List ℕ
words_at b from zero = []
words_at b from (suc n) = word_at b from ∷ words_at b (from + 4) n

module _ (b : List ℕ) where
  pub byte_at : (from : ℕ) → from < length b → byte (drop from b) ≡ some (at b from, drop (from + 1) b)
  byte_at from h = rw (drop-cons b from 0 h, add-one from)

  pub byte-none : (from : ℕ) → length b ≤ from → byte (drop from b) ≡ none
  byte-none from h = rw (drop_of_length-le b h)

  pub up_to-at : (most from : ℕ) → from < length b → at b from ≤ most → up_to most (drop from b) ≡ some (at b from, drop (from + 1) b)
  up_to-at most from h l = rw (byte_at from h, le-leb (at b from) most l)

  pub up_to-over : (most from : ℕ) → from < length b → most < at b from → up_to most (drop from b) ≡ none
  up_to-over most from h l = rw (byte_at from h, lt-leb (at b from) most l)

  pub up_to-none : (most from : ℕ) → length b ≤ from → up_to most (drop from b) ≡ none
  up_to-none most from h = rw (byte-none from h)

  word-at : (from : ℕ) → from + 4 ≤ length b → word (drop from b) ≡ some (word_at b from, drop (from + 4) b)
  unfolding word
  word-at from h = rw (drop-four b from h)

  times-at : (n from : ℕ) → from + 4 * n ≤ length b → times n word (drop from b) ≡ some (words_at b from n, drop (from + 4 * n) b)
  times-at zero from h = let e : from + 4 * 0 ≡ from = omega arith in rw e
  times-at (suc n) from h =
      let e : from + 4 * suc n ≡ from + 4 + 4 * n = omega arith in
      rw (e, word-at from (omega arith), times-at n (from + 4) (omega arith))

  pub values-at : (most from : ℕ) → from < length b → at b from ≤ most → from + 1 + 4 * at b from ≤ length b →
      values_read most (drop from b) ≡ some (words_at b (from + 1) (at b from), drop (from + 1 + 4 * at b from) b)
  unfolding values_read
  values-at most from h l f = rw (up_to-at most from h l) (times-at (at b from) (from + 1) f)

short-word : (xs : List ℕ) → length xs < 4 → word xs ≡ none
unfolding word
short-word [] h = refl
short-word (x ∷ []) h = refl
short-word (x ∷ (y ∷ [])) h = refl
short-word (x ∷ (y ∷ (z ∷ []))) h = refl
short-word (x ∷ (y ∷ (z ∷ (w ∷ xs)))) h = absurd (omega arith)

short-times : (n : ℕ) (xs : List ℕ) → length xs < 4 * n → times n word xs ≡ none
unfolding word
short-times zero xs h = absurd (omega arith)
short-times (suc n) [] h = refl
short-times (suc n) (x ∷ []) h = refl
short-times (suc n) (x ∷ (y ∷ [])) h = refl
short-times (suc n) (x ∷ (y ∷ (z ∷ []))) h = refl
short-times (suc n) (x ∷ (y ∷ (z ∷ (w ∷ xs)))) h = rw (short-times n xs (omega arith))

module _ (b : List ℕ) where
  pub values-none : (most from : ℕ) → length b ≤ from → values_read most (drop from b) ≡ none
  unfolding values_read
  values-none most from h = rw (up_to-none b most from h)

  pub values-over : (most from : ℕ) → from < length b → most < at b from → values_read most (drop from b) ≡ none
  unfolding values_read
  values-over most from h l = rw (up_to-over b most from h l)

  pub values_cut : (most from : ℕ) → from < length b → at b from ≤ most → length b < from + 1 + 4 * at b from → values_read most (drop from b) ≡ none
  unfolding values_read
  values_cut most from h l c =
      rw (up_to-at b most from h l) (short-times (at b from) (drop (from + 1) b) (omega (arith, length-drop (from + 1) b)))
