-- What step answers on a board that was read, row by row: of a choice among its ends, of judging it, and of the move. Assumes nothing.
use mathlib.Core.Path.{◌≡◌, refl, sym, subst, ◌∙◌}
use mathlib.Core.Bool.{Bool, true, false, ◌&&◌}
use mathlib.Core.List.{List}
use Prim.Native.Nat.{ℕ}
use lib.Dec.{ltb}
use lib.ListN.{length}
use Rattle.paper.specs.Lists.{all}
use Rattle.paper.specs.Answers.{Answer, refused, good, ◌>>=◌, judged_by}
use Rattle.paper.specs.Marking.{Marking, encode}
use Rattle.paper.specs.Choices.{Board, how_many, rules, next}
use Rattle.paper.specs.Operations.{rising, choice_of, step_of, packed, in_room, Reply}
use Rattle.offers.specs.declared.Offers.{Offers}
use Rattle.ends_masks.specs.declared.Ends.{Ends}
use Rattle.std.specs.Prelude.{Result, Ok, Err}
use Rattle.wire.specs.declared.Refusal.{Refusal}
use Rattle.wire.specs.Refusals.{said, number, place}
use Rattle.choice_judge.specs.Judging.{row_rules}
use Rattle.choice_judge.proofs.Meaning.{judged_rows}
use Rattle.choice.specs.Choice.{choice_read}
use Rattle.choice.proofs.Laws.{refused-is, good-is, choice_is}
use Rattle.marking_held.specs.MarkingHeld.{Held}
use Rattle.step.specs.Stepping.{settled, chosen, Standing}

-- ---- row 9, and the choice
module _ (t : List ℕ) (d : Board) (n : ℕ) (q : n ≡ how_many d) (ks : List ℕ) where
  in_ends : (v : Bool) → rising ks && all (λ k. ltb k n) ks ≡ v → rising ks && all (λ k. ltb k (how_many d)) ks ≡ v
  in_ends v e = subst (λ (i : ℕ). rising ks && all (λ k. ltb k i) ks ≡ v) q e

  pub chosen_9 : (a p w : ℕ) (out : List ℕ) → refused a p ≡ choice_read ks n → w ≡ packed a p 0 → Reply (in_room (length out) (chosen t d ks)) w out out
  unfolding chosen step_of
  chosen_9 a p w out e h =
      let r = refused-is ks n a p e in
      rw (in_ends false (sym (choice_is ks n) ∙ r.0)) (rw (r.1, r.2) at h, refl)

  onward : (a : Answer (Unit {0})) (m : Marking) → (a >>= (λ u. good m)) >>= (λ m. good (encode t m)) ≡ a >>= (λ u. good (encode t m))
  onward (refused k p) m = refl
  onward (good u) m = refl

  chosen_settles : (c : ℕ) → good c ≡ choice_read ks n → chosen t d ks ≡ settled t d c
  unfolding chosen step_of settled
  chosen_settles c e =
      let r = good-is ks n c e in
      rw (in_ends true (sym (choice_is ks n) ∙ r.0), r.1) (onward (judged_by (rules d) (choice_of ks)) (next d (choice_of ks)))

  pub settled-reply : (c : ℕ) → good c ≡ choice_read ks n → (w : ℕ) (out after : List ℕ)
      → Reply (in_room (length out) (settled t d c)) w out after → Reply (in_room (length out) (chosen t d ks)) w out after
  settled-reply c e w out after h = rw (chosen_settles c e) h

-- ---- rows 10 to 12
module _ {t b : List ℕ} {o : Offers} {e : Ends} {x : Held} (s : Standing t b o e x) (c : ℕ) (r : Result (Unit {0}) Refusal)
    (h : said r ≡ judged_by (row_rules t o e x.runs x.kept) c) where
  verdict : judged_by (rules s.on) c ≡ said r
  verdict = sym (h ∙ judged_rows t s.on o e x.runs x.kept c s.stands)

  pub settled-refused : (why : Refusal) (w : ℕ) (out : List ℕ) → r ≡ Err why → w ≡ packed (number why) (place why) 0 → Reply (in_room (length out) (settled t s.on c)) w out out
  unfolding settled
  settled-refused why w out q z = rw (verdict, q) (z, refl)

  pub settled_moves : r ≡ Ok tt → (w : ℕ) (out after : List ℕ) → Reply (in_room (length out) (good (encode t (next s.on c)))) w out after
      → Reply (in_room (length out) (settled t s.on c)) w out after
  unfolding settled
  settled_moves q w out after z = rw (verdict, q) z
