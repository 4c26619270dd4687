-- Same bytes, same answer: two calls of one operation on the same bytes, whatever room each lends and whatever stood in it. Assumes nothing.
use mathlib.Core.Path.{◌≡◌, refl, sym, ◌∙◌}
use Prim.Native.Nat.{ℕ, ◌≤◌, ◌<◌}
use native.Mathlib.Omega.{arith}
use mathlib.Core.Bool.{Bool, true, false, cond}
use mathlib.Core.List.{List, [], ◌++◌}
use borrow.Author.Tests.{leb-true, leb-false}
use lib.Dec.{leb}
use lib.ListN.{length, take, drop}
use lib.Seq.{take-append_seam}
use Rattle.paper.specs.Answers.{Answer, refused, good}
use Rattle.paper.specs.Offers.{Terms}
use Rattle.paper.specs.Operations.{check, start, sheet, Pick, Why, step, finish, packed, in_room, Reply, Leaves, Only}
use Rattle.paper.proofs.Calls.{OneAllowed, Call, checks, starts, sheets, picks, whys, steps, finishes, AllowedBy, one-allowed}

-- ---- an answer's three numbers, its word and its reply (a refusal writes nothing)
abbrev pub number_of : Answer (List ℕ) → ℕ
number_of (refused n p) = n
number_of (good b) = 0

abbrev pub place_of : Answer (List ℕ) → ℕ
place_of (refused n p) = p
place_of (good b) = 0

abbrev pub reply_of : Answer (List ℕ) → List ℕ
reply_of (refused n p) = []
reply_of (good b) = b

abbrev pub word_of : Answer (List ℕ) → ℕ
word_of a = packed (number_of a) (place_of a) (length (reply_of a))

-- ---- what a call with the answer a leaves of the lent output
pub record Left (a : Answer (List ℕ)) (word : ℕ) (before after : List ℕ) : Type 0 where
  -- where the room holds the reply: the answer's word, the reply at the front, and behind it what was there
  pub held : length (reply_of a) ≤ length before → (word ≡ word_of a) × (after ≡ reply_of a ++ drop (length (reply_of a)) before)
  -- where it doesn't: 17 with place and length 0, and every byte as it was
  pub not-held : length before < length (reply_of a) → (word ≡ packed 17 0 0) × (after ≡ before)

left-good : (b before after : List ℕ) (w : ℕ) (k : Bool) → leb (length b) (length before) ≡ k → Reply (cond k (good b) (refused 17 0)) w before after → Left (good b) w before after
left-good b before after w true e h = record { held = λ l. h; not-held = λ l. absurd (omega (arith, leb-true (length b) (length before) e)) }
left-good b before after w false e h = record { held = λ l. absurd (omega (arith, leb-false (length b) (length before) e)); not-held = λ l. h }

pub reply-left : (a : Answer (List ℕ)) (w : ℕ) (before after : List ℕ) → Reply (in_room (length before) a) w before after → Left a w before after
reply-left (refused n p) w before after h = record { held = λ l. h; not-held = λ l. absurd (omega arith) }
reply-left (good b) w before after h = left-good b before after w (leb (length b) (length before)) refl h

-- a refusal writes nothing, so no room is too short for it
pub refused-left : {n p w : ℕ} {before after : List ℕ} → Left (refused n p) w before after → (w ≡ packed n p 0) × (after ≡ before)
refused-left l = l.held (omega arith)

-- whatever answer is known to be allowed, it is what a call leaves
pub leaves-left : {Allowed : Answer (List ℕ) → Type 0} → OneAllowed Allowed → (a : Answer (List ℕ)) → Allowed a
    → (w : ℕ) (before after : List ℕ) → Leaves Allowed w before after → Left a w before after
leaves-left one a h w before after l =
    let e : l.answer ≡ a = one l.answer a l.allowed h in
    reply-left a w before after (rw e at l.reply)

-- ---- two calls on the same bytes
-- what two calls leave, the first with the room `before`, the second with `before'`
pub record OneBracket (Allowed : Answer (List ℕ) → Type 0) (w : ℕ) (before after : List ℕ) (v : ℕ) (before' after' : List ℕ) : Type 0 where
  -- one answer that the definition allows
  pub answer : Answer (List ℕ)
  pub allowed : Allowed answer
  -- where both rooms hold its reply: the same word, and the same reply at the front
  pub same : length (reply_of answer) ≤ length before → length (reply_of answer) ≤ length before'
      → (w ≡ v) × (take (length (reply_of answer)) after ≡ reply_of answer) × (take (length (reply_of answer)) after' ≡ reply_of answer)
  -- and all that each of them leaves: where a room doesn't hold the reply, 17, and its bytes as they were
  pub first : Left answer w before after
  pub second : Left answer v before' after'

abbrev pub SameAnswer : (Answer (List ℕ) → Type 0) → Type 0
SameAnswer Allowed =
    (w v : ℕ) (before after before' after' : List ℕ) → Leaves Allowed w before after → Leaves Allowed v before' after' → OneBracket Allowed w before after v before' after'

front : {a : Answer (List ℕ)} {w : ℕ} {before after : List ℕ} → Left a w before after → length (reply_of a) ≤ length before → take (length (reply_of a)) after ≡ reply_of a
front {a} {w} {before} {after} l h = rw (l.held h).1 (take-append_seam (reply_of a) (drop (length (reply_of a)) before))

-- five refreshes show one bracket: wherever a definition allows one answer
pub refreshes_show_one_bracket : {Allowed : Answer (List ℕ) → Type 0} → OneAllowed Allowed → SameAnswer Allowed
refreshes_show_one_bracket {Allowed} one w v before after before' after' x y =
    let f = leaves-left one x.answer x.allowed w before after x in
    let s = leaves-left one x.answer x.allowed v before' after' y in
    record {
      answer = x.answer;
      allowed = x.allowed;
      same = λ h i. ((f.held h).0 ∙ sym (s.held i).0, front f h, front s i);
      first = f;
      second = s;
    }

-- so of any call
pub same-bytes-same-answer : (c : Call) → SameAnswer (AllowedBy c)
same-bytes-same-answer c = refreshes_show_one_bracket (one-allowed c)

-- and of each operation, in the words of its export's promise
pub check-same-answer : (t : List ℕ) → SameAnswer (Only (check t))
check-same-answer t = same-bytes-same-answer (checks t)

pub start-same-answer : (t b : List ℕ) → SameAnswer (Only (start t b))
start-same-answer t b = same-bytes-same-answer (starts t b)

pub sheet-same-answer : (t b : List ℕ) (w : Terms) → SameAnswer (Only (sheet t b w))
sheet-same-answer t b w = same-bytes-same-answer (sheets t b w)

pub pick_same-answer : (t b : List ℕ) (w : Terms) (n : ℕ) → SameAnswer (Pick t b w n)
pick_same-answer t b w n = same-bytes-same-answer (picks t b w n)

pub why_same-answer : (t b : List ℕ) (w : Terms) (n : ℕ) → SameAnswer (Why t b w n)
why_same-answer t b w n = same-bytes-same-answer (whys t b w n)

pub step-same-answer : (t b : List ℕ) (w : Terms) (ks : List ℕ) → SameAnswer (Only (step t b w ks))
step-same-answer t b w ks = same-bytes-same-answer (steps t b w ks)

pub finish-same-answer : (t b : List ℕ) (a : ℕ) (vs : List ℕ) → SameAnswer (Only (finish t b a vs))
finish-same-answer t b a vs = same-bytes-same-answer (finishes t b a vs)
