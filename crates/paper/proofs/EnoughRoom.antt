-- A marking always fits in as many bytes as the limits say, a sheet in 4,096, a choice in 20, a reason in 1: a call that lends that much is never refused 17, and two such calls on the same bytes return
-- the same word and show the same bytes. Of step it is assumed that what it reads as the marking are bytes, each below 256; of the others nothing.
use mathlib.Core.Path.{◌≡◌, sym, subst}
use Prim.Native.Nat.{ℕ, ◌≤◌}
use native.Mathlib.Omega.{arith}
use mathlib.Core.List.{List, ◌++◌}
use lib.ListN.{length, drop}
use Rattle.paper.specs.Limits.{limits}
use Rattle.paper.specs.Answers.{Answer, refused, good}
use Rattle.paper.specs.Offers.{Terms}
use Rattle.paper.specs.Operations.{step, Leaves}
use Rattle.paper.proofs.Bytes.{Bytes}
use Rattle.paper.proofs.OneMarking.{encode-fits}
use Rattle.paper.proofs.Boards.{board-good}
use Rattle.paper.proofs.Written.{step_meant}
use Rattle.paper.proofs.Calls.{Call, checks, starts, sheets, picks, whys, steps, finishes, AllowedBy, one-allowed}
use Rattle.paper.proofs.SameAnswer.{reply_of, word_of, leaves-left, same-bytes-same-answer}
use Rattle.paper.proofs.OneWord.{replies_most, shown, same-shown}

abbrev pub room_needed : Call → ℕ
room_needed (checks t) = 0
room_needed (starts t b) = limits.longest_marking
room_needed (sheets t b w) = 4096
room_needed (picks t b w n) = 20
room_needed (whys t b w n) = 1
room_needed (steps t b w ks) = limits.longest_marking
room_needed (finishes t b a vs) = limits.longest_marking

abbrev pub BytesLent : Call → Type 0
BytesLent (checks t) = Unit {0}
BytesLent (starts t b) = Unit {0}
BytesLent (sheets t b w) = Unit {0}
BytesLent (picks t b w n) = Unit {0}
BytesLent (whys t b w n) = Unit {0}
BytesLent (steps t b w ks) = Bytes b
BytesLent (finishes t b a vs) = Unit {0}

step_most : (t b : List ℕ) (w : Terms) (ks : List ℕ) → Bytes b → (a : Answer (List ℕ)) → a ≡ step t b w ks → length (reply_of a) ≤ limits.longest_marking
step_most t b w ks u (refused k p) h = omega arith
step_most t b w ks u (good out) h =
    let r = step_meant t b w ks out u (sym h) in
    let f = (board-good t b w r.0 r.2).table-fine in
    subst (λ (x : List ℕ). length x ≤ limits.longest_marking) r.4.written (encode-fits t r.1 f r.4.is-good)

-- every reply fits
pub reply-fits : (c : Call) → BytesLent c → (a : Answer (List ℕ)) → AllowedBy c a → length (reply_of a) ≤ room_needed c
reply-fits (checks t) u a h = replies_most (checks t) a h
reply-fits (starts t b) u a h = replies_most (starts t b) a h
reply-fits (sheets t b w) u a h = omega (arith, replies_most (sheets t b w) a h)
reply-fits (picks t b w n) u a h = replies_most (picks t b w n) a h
reply-fits (whys t b w n) u a h = replies_most (whys t b w n) a h
reply-fits (steps t b w ks) u a h = step_most t b w ks u a h
reply-fits (finishes t b x vs) u a h = replies_most (finishes t b x vs) a h

-- so 17 never comes: the word is the answer's own, and the reply stands at the front
pub enough-room : (c : Call) → BytesLent c → (w : ℕ) (before after : List ℕ) (l : Leaves (AllowedBy c) w before after) → room_needed c ≤ length before
    → (w ≡ word_of l.answer) × (after ≡ reply_of l.answer ++ drop (length (reply_of l.answer)) before)
enough-room c u w before after l r =
    (leaves-left (one-allowed c) l.answer l.allowed w before after l).held (omega (arith, reply-fits c u l.answer l.allowed))

-- five refreshes: the same word, and the same bytes shown, whatever stood in the two rooms
pub five_refreshes_one_bracket : (c : Call) → BytesLent c → (w v : ℕ) (before after before' after' : List ℕ)
    → Leaves (AllowedBy c) w before after → Leaves (AllowedBy c) v before' after' → room_needed c ≤ length before → room_needed c ≤ length before'
    → (w ≡ v) × (shown w after ≡ shown v after')
five_refreshes_one_bracket c u w v before after before' after' x y r s =
    let o = same-bytes-same-answer c w v before after before' after' x y in
    let f = reply-fits c u o.answer o.allowed in
    let h : length (reply_of o.answer) ≤ length before = omega arith in
    let i : length (reply_of o.answer) ≤ length before' = omega arith in
    same-shown c o h i
