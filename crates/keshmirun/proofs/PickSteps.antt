-- Sheet, pick and step together: where sheet has an answer, pick with no node named has one; and whatever pick answers, step accepts. Assumes nothing.
use mathlib.Core.Path.{◌≡◌, refl, sym, ap, subst, ◌∙◌}
use mathlib.Core.Bool.{true}
use mathlib.Core.List.{List}
use Prim.Native.Nat.{ℕ}
use Rattle.paper.specs.Answers.{Answer, refused, good, judged_by, is_good}
use Rattle.paper.specs.Marking.{encode}
use Rattle.paper.specs.Offers.{Terms}
use Rattle.paper.specs.Choices.{Board, board, how_many, rules, acceptable, next}
use Rattle.paper.specs.Operations.{sheet, wanted, PickOn, PickIf, Pick, choice_of, step_of, step}
use Rattle.paper.proofs.Bools.{never, and-true}
use Rattle.paper.proofs.Ladders.{no_good, row-good}
use Rattle.paper.proofs.EmptyChoice.{unnamed_never_13, unnamed_picks}
use Rattle.choice.specs.Choice.{is_choice, choice_read, numbers}
use Rattle.choice.proofs.Laws.{taken-numbers, written_reads, good-is, choice_is}

-- ---- step accepts what pick answers
unrefused : (r : Answer (Unit {0})) → is_good r ≡ true → r ≡ good tt
unrefused (refused n p) h = never (is_good {A = Unit {0}} (refused n p)) h refl
unrefused (good a) h = refl

wanted_judged : (d : Board) (n c : ℕ) → wanted d n c ≡ true → judged_by (rules d) c ≡ good tt
unfolding wanted acceptable
wanted_judged d n c h = unrefused (judged_by (rules d) c) (and-true (acceptable d c) _ h).0

-- the numbers of the ends of a first choice are read as that choice
taken-read : (d : Board) (n : ℕ) (ks : List ℕ) (p : PickOn d n (good ks)) → (is_choice ks (how_many d) ≡ true) × (p.0 ≡ choice_of ks)
taken-read d n ks p =
    let e : ks ≡ numbers p.0 (how_many d) = p.2 ∙ sym (taken-numbers d p.0 (how_many d) refl) in
    let r : choice_read ks (how_many d) ≡ good p.0 = ap (λ (l : List ℕ). choice_read l (how_many d)) e ∙ written_reads p.0 (how_many d) p.1.is_set in
    good-is ks (how_many d) p.0 (sym r)

steps_on : (d : Board) (n : ℕ) (ks : List ℕ) → PickOn d n (good ks) → step_of d ks ≡ good (next d (choice_of ks))
unfolding step_of
steps_on d n ks p =
    let q = taken-read d n ks p in
    let w : wanted d n (choice_of ks) ≡ true = subst (λ (c : ℕ). wanted d n c ≡ true) q.1 p.1.passes in
    rw (sym (choice_is ks (how_many d)) ∙ q.0, wanted_judged d n (choice_of ks) w)

pub pick_steps : (t b : List ℕ) (w : Terms) (n : ℕ) (ks : List ℕ) (d : Board) → board t b w ≡ good d → Pick t b w n (good ks) → step t b w ks ≡ good (encode t (next d (choice_of ks)))
unfolding Pick step
pick_steps t b w n ks d e h = let p : PickIf (good d) n (good ks) = rw e at h in rw (e, steps_on d n ks p)

-- wherever pick has an answer there is a board, and so a step
pub pick_accepted : (t b : List ℕ) (w : Terms) (n : ℕ) (ks : List ℕ) → Pick t b w n (good ks) → (after : List ℕ) × (step t b w ks ≡ good after)
unfolding Pick
pick_accepted t b w n ks = by (board t b w) refl
  where
    by : (r : Answer Board) → board t b w ≡ r → PickIf r n (good ks) → (after : List ℕ) × (step t b w ks ≡ good after)
    by (refused k p) e h = no_good (sym h)
    by (good d) e h = (encode t (next d (choice_of ks)), pick_steps t b w n ks d e (rw e h))

-- ---- where sheet isn't refused
module _ (t b : List ℕ) (w : Terms) (x : List ℕ) (h : sheet t b w ≡ good x) where
  on-board : (d : Board) × (board t b w ≡ good d)
  unfolding sheet
  on-board = let r = row-good (board t b w) _ x h in (r.0, r.1)

  pub unnamed_answered : (ks : List ℕ) × Pick t b w 255 (good ks)
  unnamed_answered = unnamed_picks t b w on-board.0 on-board.1

  pub unnamed_unrefused : (k p : ℕ) → Pick t b w 255 (refused k p) → ⊥
  unnamed_unrefused = unnamed_never_13 t b w on-board.0 on-board.1
