-- "Operations and their numbers": six ladders of the table's rows, pick as a relation, wish 4's why as another, and what a call leaves. Assumes nothing.
use Rattle.std.specs.Prelude.{ℕ, zero, suc, ◌+◌, ◌*◌, ◌^◌, ◌≤◌, ◌<◌, ◌≡◌, Bool, true, false, not, ◌&&◌, ◌||◌, cond, List, [], ◌∷◌, ◌++◌, leb, ltb, eqb, length, take, drop}
use Rattle.std.proofs.Math.Option.{Option, none, some}
use Rattle.paper.specs.Lists.{below, all, any, each, keep, gather}
use Rattle.paper.specs.Answers.{Answer, refused, good, ◌>>=◌, need, known, judged_by, is_good}
use Rattle.paper.specs.Limits.{limits}
use Rattle.paper.specs.Bytes.{sized, four, values_read, each_read, whole}
use Rattle.paper.specs.Table.{nodes, edges, kind, owner, upper, source, outputs, is_initial, is_action, is_pin, is_input, is_incoming, table_fine}
use Rattle.paper.specs.Marking.{Marking, blank, encode, marking, has_tokens}
use Rattle.paper.specs.Offers.{Offer, Terms, last_edge, value, paths, sorted_paths, belongs}
use Rattle.paper.specs.Choices.{Board, board, how_many, taken, taken_ends, agrees, rules, acceptable, next, FirstOf}

-- ---- "check: table. Writes nothing."
unfoldable pub check : List ℕ → Answer (List ℕ)
check t = do
  _ ← table_fine t limits
  good []

-- ---- value lists: per node listed "a count and values" (row 15: "cut, a count over 16, or bytes left")
unfoldable pub value_lists : List ℕ → List ℕ → Option (List (List ℕ))
value_lists ps b = whole (each_read (λ p. values_read limits.most_upper) ps b)

-- the list for node n, where ps are the nodes listed
abbrev pub list_for : ℕ → List ℕ → List (List ℕ) → List ℕ
list_for n [] vss = []
list_for n (p ∷ ps) [] = []
list_for n (p ∷ ps) (vs ∷ vss) = cond (eqb n p) vs (list_for n ps vss)

-- the lists append to their nodes, and each edge that passes gains 1
unfoldable pub given : (ℕ → Bool) → List ℕ → List (List ℕ) → Marking → Marking
given gains ps vss m = record {
  ended = m.ended;
  runs = m.runs;
  stock = λ n. m.stock n ++ list_for n ps vss;
  tokens = λ e. cond (gains e) (suc (m.tokens e)) (m.tokens e);
}

-- row 16: no "stock over upper, or edge at 255"
unfoldable pub room_in : List ℕ → Marking → Bool
room_in t m = all (λ n. leb (length (m.stock n)) (upper t n)) (below (nodes t)) && all (λ e. leb (m.tokens e) 255) (below (edges t))

-- ---- "start: table, and per incoming parameter in order a count and values. Initial nodes' edges get count 1, all else is empty."
unfoldable pub start_of : List ℕ → List ℕ → Answer Marking
start_of t b = do
  let ps = keep (λ n. is_incoming (kind t n)) (below (nodes t))
  vss ← known 15 (value_lists ps b)
  let m = given (λ e. has_tokens t e && is_initial (kind t (source t e))) ps vss (blank false)
  _ ← need 16 (room_in t m)
  good m

unfoldable pub start : List ℕ → List ℕ → Answer (List ℕ)
start t b = do
  _ ← table_fine t limits
  m ← start_of t b
  good (encode t m)

-- ---- "sheet: table, marking, guards" and, by wish 1, bounds. "Writes length (2), version 1, number of ends, then per end: last edge, 1 or 0 for value or none, 4 value
-- bytes (zero if none), number of paths, and per path, in sorted order, its length and edges."
abbrev pub value_bytes : Option ℕ → List ℕ
value_bytes none = 0 ∷ four 0
value_bytes (some v) = 1 ∷ four v

unfoldable pub end_bytes : Offer → List ℕ
end_bytes o = last_edge o ∷ value_bytes (value o) ++ (length (paths o) ∷ gather (λ p. length p ∷ p) (sorted_paths o))

unfoldable pub sheet_bytes : List Offer → List ℕ
sheet_bytes es = sized (1 ∷ length es ∷ gather end_bytes es)

unfoldable pub sheet : List ℕ → List ℕ → Terms → Answer (List ℕ)
sheet t b w = do
  d ← board t b w
  good (sheet_bytes d.all_ends)

-- ---- "pick: as sheet, with a node number, or 255 for none named. Writes a choice."
abbrev pub named : ℕ → Bool
named n = not (eqb n 255)

-- the choice is acceptable and, if a node is named, has an end of it
unfoldable pub wanted : Board → ℕ → ℕ → Bool
wanted d n c = acceptable d c && (not (named n) || any (belongs d.table n) (taken_ends d c))

-- row 13: "a node is named and no acceptable choice has an end of it", among all sets of ends
pub record NoneFor (d : Board) (n : ℕ) : Type 0 where
  pub is-named : named n ≡ true
  pub none-wanted : (x : ℕ) → x < 2 ^ how_many d → wanted d n x ≡ false

-- what pick may answer on a board: refused exactly if there is none, otherwise the first
abbrev pub PickOn : Board → ℕ → Answer (List ℕ) → Type 0
PickOn d n (refused k p) = (k ≡ 13) × (p ≡ n) × NoneFor d n
PickOn d n (good ks) = (c : ℕ) × FirstOf (wanted d n) (how_many d) c × (ks ≡ taken d c)

abbrev pub PickIf : Answer Board → ℕ → Answer (List ℕ) → Type 0
PickIf (refused k p) n a = a ≡ refused k p
PickIf (good d) n a = PickOn d n a

unfoldable pub Pick : List ℕ → List ℕ → Terms → ℕ → Answer (List ℕ) → Type 0
Pick t b w n a = PickIf (board t b w) n a

-- ---- wish 4, "Why can't we pair?": as pick. "It .. writes that byte", the reason for a node.
-- "For a pin, its own rule is its action's."
unfoldable pub own_of : List ℕ → ℕ → ℕ
own_of t n = cond (is_pin (kind t n)) (owner t n) n

-- what each level asks of a choice: that it "takes an end of" the node, that it "satisfies its own destination rule", and then rule by rule that it "is free
-- of competing ends", "passes all forks whole", "satisfies all destinations"
unfoldable pub levels : Board → ℕ → List (ℕ → Bool)
levels d n =
    (λ c. any (belongs d.table n) (taken_ends d c)) ∷ (λ c. agrees d c (own_of d.table n)) ∷ each (λ r c. is_good (judged_by (r ∷ []) c)) (rules d)

-- a choice is left at level k if it has what the first k levels ask; one of all sets of m ends is, or none
module _ (asked : List (ℕ → Bool)) where
  unfoldable pub left : ℕ → ℕ → Bool
  left k c = all (λ test. test c) (take k asked)

  abbrev pub SomeLeft : ℕ → ℕ → Type 0
  SomeLeft m k = (c : ℕ) × (c < 2 ^ m) × (left k c ≡ true)

  abbrev pub NoneLeft : ℕ → ℕ → Type 0
  NoneLeft m k = (c : ℕ) → c < 2 ^ m → left k c ≡ false

  -- "the first level at which no choice is left, over all sets of ends", or 0 if one is left at the last
  abbrev pub FirstEmpty : ℕ → ℕ → Type 0
  FirstEmpty m zero = SomeLeft m (length asked)
  FirstEmpty m (suc k) = NoneLeft m (suc k) × ((j : ℕ) → j ≤ k → SomeLeft m j)

-- "255 names none and gets 0"
pub record Reason (d : Board) (n r : ℕ) : Type 0 where
  pub none_named : named n ≡ false → r ≡ 0
  pub is_first_empty : named n ≡ true → FirstEmpty (levels d n) (how_many d) r

-- "Refusals: those of sheet."
abbrev pub WhyIf : Answer Board → ℕ → Answer (List ℕ) → Type 0
WhyIf (refused k p) n a = a ≡ refused k p
WhyIf (good d) n a = (r : ℕ) × Reason d n r × (a ≡ good (r ∷ []))

unfoldable pub Why : List ℕ → List ℕ → Terms → ℕ → Answer (List ℕ) → Type 0
Why t b w n a = WhyIf (board t b w) n a

-- ---- "step: as sheet, with a choice. Writes the marking." Row 9: "choice not strictly rising, or no such end"
abbrev pub rising : List ℕ → Bool
rising [] = true
rising (x ∷ []) = true
rising (x ∷ (y ∷ ys)) = ltb x y && rising (y ∷ ys)

abbrev pub choice_of : List ℕ → ℕ
choice_of [] = 0
choice_of (k ∷ ks) = 2 ^ k + choice_of ks

unfoldable pub step_of : Board → List ℕ → Answer Marking
step_of d ks = do
  _ ← need 9 (rising ks && all (λ k. ltb k (how_many d)) ks)
  _ ← judged_by (rules d) (choice_of ks)
  good (next d (choice_of ks))

unfoldable pub step : List ℕ → List ℕ → Terms → List ℕ → Answer (List ℕ)
step t b w ks = do
  d ← board t b w
  m ← step_of d ks
  good (encode t m)

-- ---- "finish: table, marking, action, and per output pin in order a count and values. Input pins empty, the action is idle, values append, each
-- outgoing control edge gains 1."
unfoldable pub idled : List ℕ → ℕ → Marking → Marking
idled t a m = record {
  ended = m.ended;
  tokens = m.tokens;
  stock = λ n. cond (is_input (kind t n) && eqb (owner t n) a) [] (m.stock n);
  runs = λ n. not (eqb n a) && m.runs n;
}

unfoldable pub finish_of : List ℕ → Marking → ℕ → List ℕ → Answer Marking
finish_of t m a b = do
  _ ← need 6 (not m.ended)
  _ ← need 14 (ltb a (nodes t) && is_action (kind t a) && m.runs a)
  vss ← known 15 (value_lists (outputs t a) b)
  let m' = given (λ e. has_tokens t e && eqb (source t e) a) (outputs t a) vss (idled t a m)
  _ ← need 16 (room_in t m')
  good m'

unfoldable pub finish : List ℕ → List ℕ → ℕ → List ℕ → Answer (List ℕ)
finish t b a vs = do
  _ ← table_fine t limits
  m ← known 5 (marking t b)
  m' ← finish_of t m a vs
  good (encode t m')

-- ---- what a call leaves
-- row 17: "lent output shorter than the reply"
abbrev pub in_room : ℕ → Answer (List ℕ) → Answer (List ℕ)
in_room room (refused n p) = refused n p
in_room room (good b) = cond (leb (length b) room) (good b) (refused 17 0)

-- "the three answer numbers packed in one u64"
abbrev pub packed : ℕ → ℕ → ℕ → ℕ
packed refusal place len = refusal * 2 ^ 48 + place * 2 ^ 32 + len

-- the word returned, and the lent output before and after. "A refusal returns length 0 and changes no byte lent. A success changes only the reply's
-- bytes, at the front."
abbrev pub Reply : Answer (List ℕ) → ℕ → List ℕ → List ℕ → Type 0
Reply (refused n p) word before after = (word ≡ packed n p 0) × (after ≡ before)
Reply (good b) word before after = (word ≡ packed 0 0 (length b)) × (after ≡ b ++ drop (length b) before)

-- the promise of every operation: some answer that its definition allows, cut to the room, is what the word and the bytes say
pub record Leaves (Allowed : Answer (List ℕ) → Type 0) (word : ℕ) (before after : List ℕ) : Type 0 where
  pub answer : Answer (List ℕ)
  pub allowed : Allowed answer
  pub reply : Reply (in_room (length before) answer) word before after

-- for all but pick and why, which are relations, the definition is the answer
abbrev pub Only : Answer (List ℕ) → Answer (List ℕ) → Type 0
Only a b = b ≡ a
