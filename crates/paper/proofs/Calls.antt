-- What a call leaves: two answers that the same promise allows are equal, for every operation, and a word says its three numbers, of which the length is
-- one that the room holds. Assumes nothing.
use mathlib.Core.Path.{◌≡◌, refl, sym, ap, ◌∙◌}
use Prim.Native.Nat.{ℕ, ◌%◌, ◌^◌, ◌≤◌, ◌<◌}
use native.Mathlib.Omega.{arith}
use mathlib.Core.Bool.{Bool, true, false, cond}
use mathlib.Core.List.{List, ◌++◌}
use borrow.Author.Tests.{le-leb, lt-leb, leb-true}
use lib.Dec.{leb}
use lib.ListN.{length, drop}
use Rattle.paper.specs.Answers.{Answer, refused, good}
use Rattle.paper.specs.Offers.{Terms}
use Rattle.paper.specs.Operations.{check, start, sheet, step, finish, Pick, Why, packed, in_room, Reply, Leaves, Only}
use Rattle.paper.proofs.Picks.{pick_unique}
use Rattle.paper.proofs.Reasons.{why_one}

-- ---- "the three answer numbers packed in one u64"
pub packed-one : (n p l n' p' l' : ℕ) → p < 2 ^ 16 → l < 2 ^ 32 → p' < 2 ^ 16 → l' < 2 ^ 32 →
    packed n p l ≡ packed n' p' l' → (n ≡ n') × (p ≡ p') × (l ≡ l')
packed-one n p l n' p' l' hp hl hp' hl' e = (omega arith, omega arith, omega arith)

-- ---- a reply of known length, in too little room and in enough
pub reply-short : (x before : List ℕ) (n w : ℕ) → length x ≡ n → length before < n → w ≡ packed 17 0 0 → Reply (in_room (length before) (good x)) w before before
reply-short x before n w e l h = rw (lt-leb (length x) (length before) (omega arith)) (h, refl)

pub reply-full : (x before after : List ℕ) (n w : ℕ) → length x ≡ n → n ≤ length before → w ≡ packed 0 0 n → after ≡ x ++ drop (length x) before
    → Reply (in_room (length before) (good x)) w before after
reply-full x before after n w e l h a = rw (le-leb (length x) (length before) (omega arith)) (h ∙ ap (packed 0 0) (sym e), a)

-- ---- one word and one lent output
reply_unique : (a : Answer (List ℕ)) (w v : ℕ) (before x y : List ℕ) → Reply a w before x → Reply a v before y → (w ≡ v) × (x ≡ y)
reply_unique (refused n p) w v before x y h i = (h.0 ∙ sym i.0, h.1 ∙ sym i.1)
reply_unique (good b) w v before x y h i = (h.0 ∙ sym i.0, h.1 ∙ sym i.1)

abbrev pub OneAllowed : (Answer (List ℕ) → Type 0) → Type 0
OneAllowed Allowed = (a b : Answer (List ℕ)) → Allowed a → Allowed b → a ≡ b

-- whatever a definition allows, if that is one answer, a call leaves one word and one lent output
pub leaves_unique : {Allowed : Answer (List ℕ) → Type 0} → OneAllowed Allowed →
    (w v : ℕ) (before x y : List ℕ) → Leaves Allowed w before x → Leaves Allowed v before y → (w ≡ v) × (x ≡ y)
leaves_unique one w v before x y h i =
    let e : i.answer ≡ h.answer = one i.answer h.answer i.allowed h.allowed in
    reply_unique (in_room (length before) h.answer) w v before x y h.reply (rw e at i.reply)

only_one : (c : Answer (List ℕ)) → OneAllowed (Only c)
only_one c a b h i = h ∙ sym i

-- ---- any call, with the bytes and the number that it is lent
pub data Call : Type 0 where
  checks : (t : List ℕ) → Call
  starts : (t b : List ℕ) → Call
  sheets : (t b : List ℕ) (w : Terms) → Call
  picks : (t b : List ℕ) (w : Terms) (n : ℕ) → Call
  whys : (t b : List ℕ) (w : Terms) (n : ℕ) → Call
  steps : (t b : List ℕ) (w : Terms) (ks : List ℕ) → Call
  finishes : (t b : List ℕ) (a : ℕ) (vs : List ℕ) → Call

-- what its operation's definition allows: what the exported function promises is `Leaves (AllowedBy ..)`
abbrev pub AllowedBy : Call → Answer (List ℕ) → Type 0
AllowedBy (checks t) = Only (check t)
AllowedBy (starts t b) = Only (start t b)
AllowedBy (sheets t b w) = Only (sheet t b w)
AllowedBy (picks t b w n) = Pick t b w n
AllowedBy (whys t b w n) = Why t b w n
AllowedBy (steps t b w ks) = Only (step t b w ks)
AllowedBy (finishes t b a vs) = Only (finish t b a vs)

-- it is one answer
pub one-allowed : (c : Call) → OneAllowed (AllowedBy c)
one-allowed (checks t) = only_one (check t)
one-allowed (starts t b) = only_one (start t b)
one-allowed (sheets t b w) = only_one (sheet t b w)
one-allowed (picks t b w n) = pick_unique t b w n
one-allowed (whys t b w n) = why_one t b w n
one-allowed (steps t b w ks) = only_one (step t b w ks)
one-allowed (finishes t b a vs) = only_one (finish t b a vs)

-- ---- so two calls that lend the same leave the same (whatever they lend: `SameAnswer`)
abbrev pub OneCall : (Answer (List ℕ) → Type 0) → Type 0
OneCall Allowed = (w v : ℕ) (before x y : List ℕ) → Leaves Allowed w before x → Leaves Allowed v before y → (w ≡ v) × (x ≡ y)

pub same_answer : (c : Call) → OneCall (AllowedBy c)
same_answer c = leaves_unique (one-allowed c)

pub check_unique : (t : List ℕ) → OneCall (Only (check t))
check_unique t = same_answer (checks t)

pub start_unique : (t b : List ℕ) → OneCall (Only (start t b))
start_unique t b = same_answer (starts t b)

pub sheet_unique : (t b : List ℕ) (w : Terms) → OneCall (Only (sheet t b w))
sheet_unique t b w = same_answer (sheets t b w)

pub pick_call_unique : (t b : List ℕ) (w : Terms) (n : ℕ) → OneCall (Pick t b w n)
pick_call_unique t b w n = same_answer (picks t b w n)

pub why_unique : (t b : List ℕ) (w : Terms) (n : ℕ) → OneCall (Why t b w n)
why_unique t b w n = same_answer (whys t b w n)

pub step_unique : (t b : List ℕ) (w : Terms) (ks : List ℕ) → OneCall (Only (step t b w ks))
step_unique t b w ks = same_answer (steps t b w ks)

pub finish_unique : (t b : List ℕ) (a : ℕ) (vs : List ℕ) → OneCall (Only (finish t b a vs))
finish_unique t b a vs = same_answer (finishes t b a vs)

-- ---- the length in a word lies within the room that was lent
fitted : (k : Bool) (b before after : List ℕ) (w : ℕ) → leb (length b) (length before) ≡ k → Reply (cond k (good b) (refused 17 0)) w before after → w % 4294967296 ≤ length before
fitted true b before after w e h = omega (arith, leb-true, h.0)
fitted false b before after w e h = omega (arith, h.0)

reply-fits : (a : Answer (List ℕ)) (w : ℕ) (before after : List ℕ) → Reply (in_room (length before) a) w before after → w % 4294967296 ≤ length before
reply-fits (refused n p) w before after h = omega (arith, h.0)
reply-fits (good b) w before after h = fitted (leb (length b) (length before)) b before after w refl h

pub length-fits : {Allowed : Answer (List ℕ) → Type 0} (w : ℕ) (before after : List ℕ) → Leaves Allowed w before after → w % 4294967296 ≤ length before
length-fits w before after h = reply-fits h.answer w before after h.reply
