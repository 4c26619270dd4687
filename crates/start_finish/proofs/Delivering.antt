-- What deliver answers, from what it was given: a refusal of rows 15 and 16, or the reply. Assumes nothing.
use mathlib.Core.Path.{◌≡◌, refl, sym, ap, ◌∙◌}
use mathlib.Core.Bool.{Bool}
use mathlib.Core.List.{List}
use Prim.Native.Nat.{ℕ}
use lib.ListN.{length}
use Rattle.paper.specs.Lists.{one_if}
use Rattle.paper.specs.Answers.{refused, good}
use Rattle.paper.specs.Marking.{Marking, encode}
use Rattle.paper.specs.Operations.{packed, in_room, Reply}
use Rattle.marking_held.specs.MarkingHeld.{Held, MarkingHeld}
use Rattle.marking_give.specs.Giving.{give_of}
use Rattle.marking_give.proofs.GivingLaws.{give_state}
use Rattle.start_finish.specs.Delivered.{Deliverable, delivered}

module _ {t : List ℕ} {k o : ℕ} {old : List ℕ} {x : Held} (d : Deliverable t k o old x) (fires : ℕ → Bool) (b : List ℕ) where
  pub refused-reply : (n p w : ℕ) (out : List ℕ) → give_of t k o fires d.current b ≡ refused n p → w ≡ packed n p 0
      → Reply (in_room (length out) (delivered t k o fires d.current b)) w out out
  unfolding delivered
  refused-reply n p w out e h = rw e (h, refl)

  pub full-reply : (y : Held) → (m : Marking) × (give_of t k o fires d.current b ≡ good m) × MarkingHeld t m old b y → (w : ℕ) (out after : List ℕ)
      → ((m : Marking) → MarkingHeld t m old b y → 0 ≡ one_if m.ended → Reply (in_room (length out) (good (encode t m))) w out after)
      → Reply (in_room (length out) (delivered t k o fires d.current b)) w out after
  unfolding delivered
  full-reply y told w out after f =
      let live = give_state t k o fires d.current b told.0 told.1 ∙ d.live in
      rw told.1 (f told.0 told.2 (sym (ap one_if live)))
