-- The word tells the answer: of two answers that are lengths, or refusals at places of a byte, with one word, one is the other. Assumes nothing.
use mathlib.Core.Path.{◌≡◌, refl, sym, ap, ap₂, ◌∙◌}
use mathlib.Core.Bool.{cond}
use Prim.Native.Nat.{ℕ, ◌≤◌, ◌<◌}
use native.Mathlib.Omega.{arith}
use lib.Dec.{eqb}
use Rattle.std.specs.Prelude.{Result, Ok, Err, IfErr}
use Rattle.wire.specs.declared.Refusal.{Refusal}
use Rattle.wire.specs.declared.Refusal.TheVariants.{Frame, Node, Edge, Shape, Marking, Ended, Guards, Size, Choice, Rivals, Fork, Destination, NoChoice, Idle, Values, Stock, Room, Bounds}
use Rattle.wire.specs.Refusals.{number, place, word_of, BelowRefusals}

-- ---- a refusal by its number and place
named : ℕ → ℕ → Refusal
named n p =
    cond (eqb n 1) Frame (cond (eqb n 2) (Node p) (cond (eqb n 3) (Edge p) (cond (eqb n 4) (Shape p) (cond (eqb n 5) Marking (cond (eqb n 6) Ended
    (cond (eqb n 7) Guards (cond (eqb n 8) Size (cond (eqb n 9) Choice (cond (eqb n 10) (Rivals p) (cond (eqb n 11) (Fork p)
    (cond (eqb n 12) (Destination p) (cond (eqb n 13) (NoChoice p) (cond (eqb n 14) Idle (cond (eqb n 15) Values (cond (eqb n 16) Stock
    (cond (eqb n 17) Room Bounds))))))))))))))))

named_is : (e : Refusal) → named (number e) (place e) ≡ e
unfolding named
named_is Frame = refl
named_is (Node p) = refl
named_is (Edge p) = refl
named_is (Shape p) = refl
named_is Marking = refl
named_is Ended = refl
named_is Guards = refl
named_is Size = refl
named_is Choice = refl
named_is (Rivals p) = refl
named_is (Fork p) = refl
named_is (Destination p) = refl
named_is (NoChoice p) = refl
named_is Idle = refl
named_is Values = refl
named_is Stock = refl
named_is Room = refl
named_is Bounds = refl

pub same_refusal : (e f : Refusal) → number e ≡ number f → place e ≡ place f → e ≡ f
same_refusal e f n p = sym (named_is e) ∙ ap₂ named n p ∙ named_is f

numbered : (e : Refusal) → 1 ≤ number e
numbered Frame = omega arith
numbered (Node p) = omega arith
numbered (Edge p) = omega arith
numbered (Shape p) = omega arith
numbered Marking = omega arith
numbered Ended = omega arith
numbered Guards = omega arith
numbered Size = omega arith
numbered Choice = omega arith
numbered (Rivals p) = omega arith
numbered (Fork p) = omega arith
numbered (Destination p) = omega arith
numbered (NoChoice p) = omega arith
numbered Idle = omega arith
numbered Values = omega arith
numbered Stock = omega arith
numbered Room = omega arith
numbered Bounds = omega arith

-- ---- an answer by its word
abbrev PlaceFits : Result ℕ Refusal → Type 0
PlaceFits r = IfErr r (λ e. place e < 256)

pub one_answer : (r s : Result ℕ Refusal) → BelowRefusals r → PlaceFits r → BelowRefusals s → PlaceFits s → word_of r ≡ word_of s → r ≡ s
one_answer (Ok m) (Ok n) l p k q e = ap Ok (omega (arith, e))
one_answer (Ok m) (Err f) l p k q e = absurd (omega (arith, numbered f))
one_answer (Err f) (Ok n) l p k q e = absurd (omega (arith, numbered f))
one_answer (Err f) (Err g) l p k q e = ap Err (same_refusal f g (omega arith) (omega arith))
