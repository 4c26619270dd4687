-- What is asked of guards and bounds, the entries of a list, and the gates that guards and bounds stand for. Assumes nothing.
use Rattle.std.specs.Prelude.{ℕ, ◌+◌, ◌*◌, ◌≤◌, ◌<◌, ◌≡◌, Bool, true, List, length, MatchOption}
use Rattle.std.specs.Prelude.{Option as Answered}
use Rattle.std.proofs.Math.Option.{Option}
use Rattle.paper.specs.Answers.{Answer, ◌>>=◌, need}
use Rattle.paper.specs.Offers.{guards_fine, bounds_fine, bounds_count, bound_edge, terms, goes_over}

-- row 7, then row 18
unfoldable pub terms_fine : List ℕ → List ℕ → List ℕ → Answer (Unit {0})
terms_fine t g x = do
  _ ← need 7 (guards_fine t g)
  need 18 (bounds_fine t x)

-- the slice has n entries, as many as its count says if it is long enough for them
pub record Entries (x : List ℕ) (n : ℕ) : Type 0 where
  pub few : n < 256
  pub inside : 0 < n → 4 + 9 * n ≤ length x
  pub counted : 4 + 9 * bounds_count x ≤ length x → n ≡ bounds_count x

-- r is edge e's entry, or none where it has none
abbrev pub EntryFound : List ℕ → ℕ → Answered ℕ → Type 0
EntryFound x e r = MatchOption r ((k : ℕ) → k < bounds_count x → bound_edge x k ≡ e → ⊥) (λ k. (k < bounds_count x) × (bound_edge x k ≡ e))

-- goes is what guards g and the good list x say of the edges of t
pub record Ties (t g x : List ℕ) (goes : ℕ → Option ℕ → Bool) : Type 0 where
  pub fine : bounds_fine t x ≡ true
  pub goes-are : (e : ℕ) (v : Option ℕ) → goes e v ≡ goes_over (terms g x) e v
