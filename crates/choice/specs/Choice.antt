-- A choice as bytes, rising numbers of ends, and as a mask. Assumes nothing.
use Rattle.std.specs.Prelude.{ℕ, Bool, ◌&&◌, List, ltb}
use Rattle.paper.specs.Lists.{has, below, all, keep}
use Rattle.paper.specs.Answers.{Answer, good, ◌>>=◌, need}
use Rattle.paper.specs.Operations.{rising, choice_of}

-- the bytes are a choice among n ends
unfoldable pub is_choice : List ℕ → ℕ → Bool
is_choice ks n = rising ks && all (λ k. ltb k n) ks

-- row 9, and the set
unfoldable pub choice_read : List ℕ → ℕ → Answer ℕ
choice_read ks n = do
  _ ← need 9 (is_choice ks n)
  good (choice_of ks)

-- the numbers of the ends below n that are taken
unfoldable pub numbers : ℕ → ℕ → List ℕ
numbers c n = keep (has c) (below n)
