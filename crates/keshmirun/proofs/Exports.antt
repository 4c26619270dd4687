-- The operations, which keshmirun_c exports under the same clauses: what their callers learn from their contracts is `Leaves` of the paper's answers on what they are lent, so every theorem on
-- `Leaves (AllowedBy ..)` is one on them (same bytes, same answer; enough room). Their words settle number, place and length, a pick's 0 and 13 mean what a
-- judge takes them for, why's byte is the reason and is 0 exactly if pick's word isn't 13's, with count 0 they leave what they left before there were bounds, and
-- on the call of a case of the small event they leave its answer.
-- `a` are the arguments as lent, in their order, `word` is what is returned, `z` are the arguments at the end. Assumes nothing.
use mathlib.Core.Path.{◌≡◌, refl, sym, ap, ◌∙◌, subst}
use mathlib.Core.Bool.{Bool, true, false, cond}
use mathlib.Core.List.{List, [], ◌∷◌}
use Prim.Native.Nat.{ℕ, ◌≤◌, ◌<◌}
use native.Mathlib.Omega.{arith}
use lib.Dec.{leb}
use lib.ListN.{length}
use borrow.Author.Tests.{le-leb}
use contract.Lifetimes.{Lfts}
use denote.Triple.Clauses.{AtExit}
use borrow.Fn.Kinds.{ParamKind, ResultKind, Dens, GoodsP, res_t, ended_of, Out}
use Rattle.paper.specs.Lists.{at}
use Rattle.paper.specs.Answers.{Answer, refused, good}
use Rattle.paper.specs.Offers.{terms, no_bounds}
use Rattle.paper.specs.Choices.{Board, board, taken}
use Rattle.paper.specs.Operations.{packed, in_room, Reply, Leaves, Only, sheet, step, Reason, WhyIf, Why as WhyAllows}
use Rattle.paper.proofs.Bools.{never}
use Rattle.paper.proofs.Lengths.{length-zero}
use Rattle.paper.proofs.Members.{In}
use Rattle.paper.proofs.BeforeBounds.{sheet_before, PickBefore, step_before, sheet_as_before, pick_as_before, step_as_before}
use Rattle.paper.proofs.Calls.{Call, checks, starts, sheets, picks, whys, steps, finishes, AllowedBy}
use Rattle.paper.proofs.SameAnswer.{Left, refused-left}
use Rattle.paper.proofs.PickMeans.{Takable, HasEndOf, empty_means_nothing_can_be_taken, refused_means_none_for_the_node}
use Rattle.paper.proofs.Reasons.{why_0_pick, why_13}
use Rattle.paper.proofs.OneWord.{Says, SaysAnswer, says-answer}
use Rattle.paper.proofs.SmallEvent.{Case, cases, small_event}
use Rattle.keshmirun.proofs.check.Kinds as CheckKinds
use Rattle.keshmirun.proofs.check.Reads as Check
use Rattle.keshmirun.proofs.start.Kinds as StartKinds
use Rattle.keshmirun.proofs.start.Reads as Start
use Rattle.keshmirun.proofs.sheet.Kinds as SheetKinds
use Rattle.keshmirun.proofs.sheet.Reads as Sheet
use Rattle.keshmirun.proofs.pick.Kinds as PickKinds
use Rattle.keshmirun.proofs.pick.Reads as Pick
use Rattle.keshmirun.proofs.why.Kinds as WhyKinds
use Rattle.keshmirun.proofs.why.Reads as Why
use Rattle.keshmirun.proofs.step.Kinds as StepKinds
use Rattle.keshmirun.proofs.step.Reads as Step
use Rattle.keshmirun.proofs.finish.Kinds as FinishKinds
use Rattle.keshmirun.proofs.finish.Reads as Finish

-- whatever a function's contract says of a call, Q holds of it
abbrev Promises : (n : ℕ) (ps : List (ParamKind n)) (r : ResultKind n) (contract Q : Out n ps r) → Type 0
Promises n ps r contract Q = (κs : Lfts n) (a : Dens κs ps) (word : (res_t r κs).Denot) (z : AtExit (ended_of n ps r) κs) → contract κs a word z → Q κs a word z

-- ---- each one's contract, its arguments as the paper lists them and then the lent output
pub check_promises : Promises 1 CheckKinds.ps CheckKinds.r Check.Learnt (λ κs a word z. Leaves (AllowedBy (checks a.0.now)) word [] [])
check_promises κs a word z h = h

pub start_promises : Promises 3 StartKinds.ps StartKinds.r Start.Learnt
    (λ κs a word z. Leaves (AllowedBy (starts a.0.now a.1.0.now)) word a.1.1.0.now z.1.1.0.now)
start_promises κs a word z h = h

pub sheet_promises : Promises 5 SheetKinds.ps SheetKinds.r Sheet.Learnt
    (λ κs a word z. Leaves (AllowedBy (sheets a.0.now a.1.0.now (terms a.1.1.0.now a.1.1.1.0.now))) word a.1.1.1.1.0.now z.1.1.1.1.0.now)
sheet_promises κs a word z h = h

pub pick_promises : Promises 5 PickKinds.ps PickKinds.r Pick.Learnt
    (λ κs a word z. Leaves (AllowedBy (picks a.0.now a.1.0.now (terms a.1.1.0.now a.1.1.1.0.now) a.1.1.1.1.0)) word a.1.1.1.1.1.0.now z.1.1.1.1.1.0.now)
pick_promises κs a word z h = h

pub why_promises : Promises 5 WhyKinds.ps WhyKinds.r Why.Learnt
    (λ κs a word z. Leaves (AllowedBy (whys a.0.now a.1.0.now (terms a.1.1.0.now a.1.1.1.0.now) a.1.1.1.1.0)) word a.1.1.1.1.1.0.now z.1.1.1.1.1.0.now)
why_promises κs a word z h = h

pub step_promises : Promises 6 StepKinds.ps StepKinds.r Step.Learnt
    (λ κs a word z. Leaves (AllowedBy (steps a.0.now a.1.0.now (terms a.1.1.0.now a.1.1.1.0.now) a.1.1.1.1.0.now)) word a.1.1.1.1.1.0.now z.1.1.1.1.1.0.now)
step_promises κs a word z h = h

pub finish_promises : Promises 4 FinishKinds.ps FinishKinds.r Finish.Learnt
    (λ κs a word z. Leaves (AllowedBy (finishes a.0.now a.1.0.now a.1.1.0 a.1.1.1.0.now)) word a.1.1.1.1.0.now z.1.1.1.1.0.now)
finish_promises κs a word z h = h

-- ---- the word that each returns settles number, place and length of its answer, without a premise on what is lent
pub check-says : Promises 1 CheckKinds.ps CheckKinds.r Check.Learnt (λ κs a word z. SaysAnswer (checks a.0.now) 0 word)
check-says κs a word z h = says-answer (checks a.0.now) tt word [] [] (check_promises κs a word z h)

pub start-says : Promises 3 StartKinds.ps StartKinds.r Start.Learnt (λ κs a word z. SaysAnswer (starts a.0.now a.1.0.now) (length a.1.1.0.now) word)
start-says κs a word z h = says-answer (starts a.0.now a.1.0.now) tt word a.1.1.0.now z.1.1.0.now (start_promises κs a word z h)

pub sheet-says : Promises 5 SheetKinds.ps SheetKinds.r Sheet.Learnt
    (λ κs a word z. SaysAnswer (sheets a.0.now a.1.0.now (terms a.1.1.0.now a.1.1.1.0.now)) (length a.1.1.1.1.0.now) word)
sheet-says κs a word z h =
    says-answer (sheets a.0.now a.1.0.now (terms a.1.1.0.now a.1.1.1.0.now)) tt word a.1.1.1.1.0.now z.1.1.1.1.0.now (sheet_promises κs a word z h)

-- the node is a byte: owning the arguments says so (`GoodsP`)
pub pick_says : (κs : Lfts 5) (a : Dens κs PickKinds.ps) → GoodsP κs PickKinds.ps a → (word : (res_t PickKinds.r κs).Denot) (z : AtExit (ended_of 5 PickKinds.ps PickKinds.r) κs)
    → Pick.Learnt κs a word z → SaysAnswer (picks a.0.now a.1.0.now (terms a.1.1.0.now a.1.1.1.0.now) a.1.1.1.1.0) (length a.1.1.1.1.1.0.now) word
pick_says κs a g word z h =
    says-answer (picks a.0.now a.1.0.now (terms a.1.1.0.now a.1.1.1.0.now) a.1.1.1.1.0) g.1.1.1.1.0.1 word a.1.1.1.1.1.0.now z.1.1.1.1.1.0.now (pick_promises κs a word z h)

pub why_says : Promises 5 WhyKinds.ps WhyKinds.r Why.Learnt
    (λ κs a word z. SaysAnswer (whys a.0.now a.1.0.now (terms a.1.1.0.now a.1.1.1.0.now) a.1.1.1.1.0) (length a.1.1.1.1.1.0.now) word)
why_says κs a word z h =
    says-answer (whys a.0.now a.1.0.now (terms a.1.1.0.now a.1.1.1.0.now) a.1.1.1.1.0) tt word a.1.1.1.1.1.0.now z.1.1.1.1.1.0.now (why_promises κs a word z h)

pub step-says : Promises 6 StepKinds.ps StepKinds.r Step.Learnt
    (λ κs a word z. SaysAnswer (steps a.0.now a.1.0.now (terms a.1.1.0.now a.1.1.1.0.now) a.1.1.1.1.0.now) (length a.1.1.1.1.1.0.now) word)
step-says κs a word z h =
    says-answer (steps a.0.now a.1.0.now (terms a.1.1.0.now a.1.1.1.0.now) a.1.1.1.1.0.now) tt word a.1.1.1.1.1.0.now z.1.1.1.1.1.0.now (step_promises κs a word z h)

pub finish-says : Promises 4 FinishKinds.ps FinishKinds.r Finish.Learnt
    (λ κs a word z. SaysAnswer (finishes a.0.now a.1.0.now a.1.1.0 a.1.1.1.0.now) (length a.1.1.1.1.0.now) word)
finish-says κs a word z h =
    says-answer (finishes a.0.now a.1.0.now a.1.1.0 a.1.1.1.0.now) tt word a.1.1.1.1.0.now z.1.1.1.1.0.now (finish_promises κs a word z h)

-- ---- with count 0 each leaves what it left before there were bounds (`BeforeBounds`)
pub sheet_as_it_was : Promises 5 SheetKinds.ps SheetKinds.r Sheet.Learnt
    (λ κs a word z. a.1.1.1.0.now ≡ no_bounds → Leaves (Only (sheet_before a.0.now a.1.0.now a.1.1.0.now)) word a.1.1.1.1.0.now z.1.1.1.1.0.now)
sheet_as_it_was κs a word z h e =
    subst (λ (x : Answer (List ℕ)). Leaves (Only x) word a.1.1.1.1.0.now z.1.1.1.1.0.now)
    (ap (λ (x : List ℕ). sheet a.0.now a.1.0.now (terms a.1.1.0.now x)) e ∙ sheet_as_before a.1.1.0.now a.0.now a.1.0.now)
    (sheet_promises κs a word z h)

pub pick_as_it_was : Promises 5 PickKinds.ps PickKinds.r Pick.Learnt
    (λ κs a word z. a.1.1.1.0.now ≡ no_bounds
    → Leaves (PickBefore a.0.now a.1.0.now a.1.1.0.now a.1.1.1.1.0) word a.1.1.1.1.1.0.now z.1.1.1.1.1.0.now)
pick_as_it_was κs a word z h e =
    let l = subst (λ (x : List ℕ). Leaves (AllowedBy (picks a.0.now a.1.0.now (terms a.1.1.0.now x) a.1.1.1.1.0)) word a.1.1.1.1.1.0.now z.1.1.1.1.1.0.now) e
    (pick_promises κs a word z h) in
    record {
      answer = l.answer;
      allowed = pick_as_before a.1.1.0.now a.0.now a.1.0.now a.1.1.1.1.0 l.answer l.allowed;
      reply = l.reply;
    }

pub step_as_it_was : Promises 6 StepKinds.ps StepKinds.r Step.Learnt
    (λ κs a word z. a.1.1.1.0.now ≡ no_bounds
    → Leaves (Only (step_before a.0.now a.1.0.now a.1.1.0.now a.1.1.1.1.0.now)) word a.1.1.1.1.1.0.now z.1.1.1.1.1.0.now)
step_as_it_was κs a word z h e =
    subst (λ (x : Answer (List ℕ)). Leaves (Only x) word a.1.1.1.1.1.0.now z.1.1.1.1.1.0.now)
    (ap (λ (x : List ℕ). step a.0.now a.1.0.now (terms a.1.1.0.now x) a.1.1.1.1.0.now) e
    ∙ step_as_before a.1.1.0.now a.0.now a.1.0.now a.1.1.1.1.0.now)
    (step_promises κs a word z h)

-- ---- pick's word to a judge
-- of an answer, cut to the room, the word 0 says that it is the empty choice, and 13's that it is a refusal
word_0 : (room w : ℕ) (x : Answer (List ℕ)) → w ≡ 0 → Says w (in_room room x) → x ≡ good []
word_0 room w (refused n p) e s = never true refl (rw e at s.granted)
word_0 room w (good b) e s = by (leb (length b) room) s
  where
    by : (k : Bool) → Says w (cond k (good b) (refused 17 0)) → good b ≡ good []
    by true s = ap good (length-zero b (omega (arith, e, s.len)))
    by false s = never true refl (rw e at s.granted)

word_13 : (room n w : ℕ) (x : Answer (List ℕ)) → n < 256 → w ≡ packed 13 n 0 → Says w (in_room room x) → (k : ℕ) × (p : ℕ) × (x ≡ refused k p)
word_13 room n w (refused k p) l e s = (k, p, refl)
word_13 room n w (good b) l e s = by (leb (length b) room) s
  where
    by : (k : Bool) → Says w (cond k (good b) (refused 17 0)) → (k : ℕ) × (p : ℕ) × (good b ≡ refused k p)
    by true s = absurd (omega (arith, e, s.number))
    by false s = absurd (omega (arith, e, s.number))

module _ (κs : Lfts 5) (a : Dens κs PickKinds.ps) (g : GoodsP κs PickKinds.ps a) (word : (res_t PickKinds.r κs).Denot) (z : AtExit (ended_of 5 PickKinds.ps PickKinds.r) κs)
    (h : Pick.Learnt κs a word z) (d : Board) (on : board a.0.now a.1.0.now (terms a.1.1.0.now a.1.1.1.0.now) ≡ good d) where
  -- 0: no end at all can be taken
  pub pick_0_means_nothing_can_be_taken : word ≡ 0 → (x : ℕ) → Takable d x → taken d x ≡ []
  pick_0_means_nothing_can_be_taken e =
      let s = pick_says κs a g word z h in
      empty_means_nothing_can_be_taken a.0.now a.1.0.now (terms a.1.1.0.now a.1.1.1.0.now) d on a.1.1.1.1.0 (rw (word_0 _ word s.0 e s.2) at s.1)

  -- 13: no acceptable set has an end of the node
  pub pick_13_means_none_for_the_node : word ≡ packed 13 a.1.1.1.1.0 0 → (x : ℕ) → Takable d x → HasEndOf d a.1.1.1.1.0 x → ⊥
  pick_13_means_none_for_the_node e =
      let s = pick_says κs a g word z h in
      let r = word_13 _ a.1.1.1.1.0 word s.0 g.1.1.1.1.0.1 e s.2 in
      refused_means_none_for_the_node a.0.now a.1.0.now (terms a.1.1.0.now a.1.1.1.0.now) d on a.1.1.1.1.0 r.0 r.1 (rw r.2 at s.1)

-- ---- why's byte to a judge, on a board and in room for it
byte_left : (r word : ℕ) (before after : List ℕ) → 1 ≤ length before → Reply (in_room (length before) (good (r ∷ []))) word before after → (word ≡ packed 0 0 1) × (at after 0 ≡ r)
byte_left r word before after l h =
    let k : Reply (good (r ∷ [])) word before after = rw (le-leb 1 (length before) l) at h in
    (k.0, ap (λ (x : List ℕ). at x 0) k.1)

module _ (κs : Lfts 5) (a : Dens κs WhyKinds.ps) (g : GoodsP κs WhyKinds.ps a) (word : (res_t WhyKinds.r κs).Denot) (z : AtExit (ended_of 5 WhyKinds.ps WhyKinds.r) κs)
    (h : Why.Learnt κs a word z) (d : Board) (on : board a.0.now a.1.0.now (terms a.1.1.0.now a.1.1.1.0.now) ≡ good d) (room : 1 ≤ length a.1.1.1.1.1.0.now) where
  answered : (r : ℕ) × Reason d a.1.1.1.1.0 r × (word ≡ packed 0 0 1) × (at z.1.1.1.1.1.0.now 0 ≡ r)
  unfolding WhyAllows
  answered =
      let l = why_promises κs a word z h in
      let s : WhyIf (good d) a.1.1.1.1.0 l.answer = rw on at l.allowed in
      let k = byte_left s.0 word a.1.1.1.1.1.0.now z.1.1.1.1.1.0.now room (rw s.2 at l.reply) in
      (s.0, s.1, k.0, k.1)

  -- the word says one byte, and it is the reason for the node
  pub why_says_the_reason : (word ≡ packed 0 0 1) × Reason d a.1.1.1.1.0 (at z.1.1.1.1.1.0.now 0)
  why_says_the_reason = (answered.2, subst (Reason d a.1.1.1.1.0) (sym answered.3) answered.1)

  -- 0 exactly if the word of a pick for that node, on the same table, marking and terms, isn't 13's
  module _ (v : ℕ) (before after : List ℕ) (p : Leaves (AllowedBy (picks a.0.now a.1.0.now (terms a.1.1.0.now a.1.1.1.0.now) a.1.1.1.1.0)) v before after) where
    why_allowed : WhyAllows a.0.now a.1.0.now (terms a.1.1.0.now a.1.1.1.0.now) a.1.1.1.1.0 (good (at z.1.1.1.1.1.0.now 0 ∷ []))
    unfolding WhyAllows
    why_allowed = rw on (at z.1.1.1.1.1.0.now 0, why_says_the_reason.1, refl)

    pub why_0_means_pick_isn't_13 : at z.1.1.1.1.1.0.now 0 ≡ 0 → v ≡ packed 13 a.1.1.1.1.0 0 → ⊥
    why_0_means_pick_isn't_13 e q =
        let s = says-answer (picks a.0.now a.1.0.now (terms a.1.1.0.now a.1.1.1.0.now) a.1.1.1.1.0) g.1.1.1.1.0.1 v before after p in
        let r = word_13 _ a.1.1.1.1.0 v s.0 g.1.1.1.1.0.1 q s.2 in
        why_0_pick a.0.now a.1.0.now (terms a.1.1.0.now a.1.1.1.0.now) d on a.1.1.1.1.0 (at z.1.1.1.1.1.0.now 0) why_allowed e r.0 r.1 (rw r.2 at s.1)

    pub another_reason_means_13 : 1 ≤ at z.1.1.1.1.1.0.now 0 → v ≡ packed 13 a.1.1.1.1.0 0
    another_reason_means_13 l =
        let e = why_13 a.0.now a.1.0.now (terms a.1.1.0.now a.1.1.1.0.now) d on a.1.1.1.1.0 (at z.1.1.1.1.1.0.now 0) why_allowed l p.answer p.allowed in
        let r : Reply (refused 13 a.1.1.1.1.0) v before after = rw e at p.reply in
        r.0

-- ---- the small event: on the call of a row of the table, an operation leaves the row's answer
case_left : (r : Case) → In r cases → (call : Call) → call ≡ r.call → (word : ℕ) (before after : List ℕ) → Leaves (AllowedBy call) word before after → Left r.answer word before after
case_left r m call e word before after l = (small_event r m).left word before after (subst (λ (x : Call). Leaves (AllowedBy x) word before after) e l)

module _ (r : Case) (row : In r cases) where
  pub sheet_case : Promises 5 SheetKinds.ps SheetKinds.r Sheet.Learnt
      (λ κs a word z. sheets a.0.now a.1.0.now (terms a.1.1.0.now a.1.1.1.0.now) ≡ r.call → Left r.answer word a.1.1.1.1.0.now z.1.1.1.1.0.now)
  sheet_case κs a word z h e = case_left r row _ e word a.1.1.1.1.0.now z.1.1.1.1.0.now (sheet_promises κs a word z h)

  pub pick_case : Promises 5 PickKinds.ps PickKinds.r Pick.Learnt
      (λ κs a word z. picks a.0.now a.1.0.now (terms a.1.1.0.now a.1.1.1.0.now) a.1.1.1.1.0 ≡ r.call → Left r.answer word a.1.1.1.1.1.0.now z.1.1.1.1.1.0.now)
  pick_case κs a word z h e = case_left r row _ e word a.1.1.1.1.1.0.now z.1.1.1.1.1.0.now (pick_promises κs a word z h)

  pub step_case : Promises 6 StepKinds.ps StepKinds.r Step.Learnt
      (λ κs a word z. steps a.0.now a.1.0.now (terms a.1.1.0.now a.1.1.1.0.now) a.1.1.1.1.0.now ≡ r.call → Left r.answer word a.1.1.1.1.1.0.now z.1.1.1.1.1.0.now)
  step_case κs a word z h e = case_left r row _ e word a.1.1.1.1.1.0.now z.1.1.1.1.1.0.now (step_promises κs a word z h)

  pub finish_case : Promises 4 FinishKinds.ps FinishKinds.r Finish.Learnt
      (λ κs a word z. finishes a.0.now a.1.0.now a.1.1.0 a.1.1.1.0.now ≡ r.call → Left r.answer word a.1.1.1.1.0.now z.1.1.1.1.0.now)
  finish_case κs a word z h e = case_left r row _ e word a.1.1.1.1.0.now z.1.1.1.1.0.now (finish_promises κs a word z h)

  -- a refused row's word, whatever is lent, and every byte as it was: 10 place 0, 13 place 2, 12 place 6, 11 place 2
  module _ (n p : ℕ) (q : r.answer ≡ refused n p) where
    refused_case : (word : ℕ) (before after : List ℕ) → Left r.answer word before after → (word ≡ packed n p 0) × (after ≡ before)
    refused_case word before after l = refused-left (subst (λ (x : Answer (List ℕ)). Left x word before after) q l)

    pub pick_refused_case : Promises 5 PickKinds.ps PickKinds.r Pick.Learnt
        (λ κs a word z. picks a.0.now a.1.0.now (terms a.1.1.0.now a.1.1.1.0.now) a.1.1.1.1.0 ≡ r.call → (word ≡ packed n p 0) × (z.1.1.1.1.1.0.now ≡ a.1.1.1.1.1.0.now))
    pick_refused_case κs a word z h e = refused_case word a.1.1.1.1.1.0.now z.1.1.1.1.1.0.now (pick_case κs a word z h e)

    pub step-refused_case : Promises 6 StepKinds.ps StepKinds.r Step.Learnt
        (λ κs a word z. steps a.0.now a.1.0.now (terms a.1.1.0.now a.1.1.1.0.now) a.1.1.1.1.0.now ≡ r.call → (word ≡ packed n p 0) × (z.1.1.1.1.1.0.now ≡ a.1.1.1.1.1.0.now))
    step-refused_case κs a word z h e = refused_case word a.1.1.1.1.1.0.now z.1.1.1.1.1.0.now (step_case κs a word z h e)
