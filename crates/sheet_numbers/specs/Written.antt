-- What a writer of text leaves. Assumes nothing.
use Rattle.std.specs.Prelude.{ℕ, ◌+◌, ◌≡◌, List, ◌++◌, length, drop}
use Rattle.std.proofs.lemmas.List.Edits.{sets}

-- from the place `to` on the text stands, `next` is the place behind it, and nothing else has changed
pub record Written (old : List ℕ) (to : ℕ) (text new : List ℕ) (next : ℕ) : Type 0 where
  pub place : next ≡ to + length text
  pub bytes : new ≡ sets old to text

-- the text stands at the front, n bytes long, and nothing behind it has changed
pub record Printed (text old new : List ℕ) (n : ℕ) : Type 0 where
  pub long : n ≡ length text
  pub front : new ≡ text ++ drop n old
