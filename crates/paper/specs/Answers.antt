-- Answers and refusals: "Each returns a refusal (0 if none), a place (0 if no refusal) and a length written.", "The lowest number that applies to the
-- operation is given." Assumes nothing.
use Rattle.std.specs.Prelude.{ℕ, Bool, true, false, List, [], ◌∷◌}
use Rattle.std.proofs.Math.Option.{Option, none, some}

-- what a reader, a judge or an operation answers: a refusal with its number and place, or a value
pub data Answer (A : Type 0) : Type 0 where
  refused : ℕ → ℕ → Answer A
  good : A → Answer A

-- a ladder of rows: the first refusal is the answer, so rows stand in the order of their numbers (18 stands where wish 1 has it, between 7 and 8)
infixl 20 ◌>>=◌
abbrev pub ◌>>=◌ : {A B : Type 0} → Answer A → (A → Answer B) → Answer B
◌>>=◌ (refused n p) f = refused n p
◌>>=◌ (good a) f = f a

-- row n: refused if a place is found, at that place
abbrev pub refuse_if : ℕ → Option ℕ → Answer (Unit {0})
refuse_if n none = good tt
refuse_if n (some p) = refused n p

-- row n: refused at place 0 unless the test passes
abbrev pub need : ℕ → Bool → Answer (Unit {0})
need n true = good tt
need n false = refused n 0

-- row n: refused at place 0 where there is no value
abbrev pub known : {A : Type 0} → ℕ → Option A → Answer A
known n none = refused n 0
known n (some a) = good a

-- rules with their numbers, each of which may find a place: the first that does refuses
abbrev pub judged_by : {A : Type 0} → List (ℕ × (A → Option ℕ)) → A → Answer (Unit {0})
judged_by [] a = good tt
judged_by (r ∷ rs) a = refuse_if r.0 (r.1 a) >>= (λ u. judged_by rs a)

abbrev pub is_good : {A : Type 0} → Answer A → Bool
is_good (refused n p) = false
is_good (good a) = true
