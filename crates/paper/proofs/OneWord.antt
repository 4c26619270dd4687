-- The word is one to one: whatever an operation answers, its number is at most 18 and 0 exactly if nothing is refused, its place is below 256 and its reply below
-- 2^32 bytes, so the word gives each of the three back. Assumes of pick that the node asked for is a byte (row 13's place is that node); of the others nothing.
use mathlib.Core.Path.{◌≡◌, refl, sym, ap, ◌∙◌}
use Prim.Native.Nat.{ℕ, ◌+◌, ◌*◌, ◌/◌, ◌%◌, ◌^◌, ◌≤◌, ◌<◌}
use native.Mathlib.Omega.{arith}
use mathlib.Core.Bool.{Bool, true, false, not, ◌&&◌, cond}
use mathlib.Core.Logic.{◌⊎◌, inl, inr, ⊎_elim}
use mathlib.Core.List.{List, [], ◌∷◌}
use mathlib.Core.Option.{Option, none, some}
use lib.Dec.{leb, ltb, eqb}
use lib.ListN.{length, take, drop, length-append}
use borrow.Author.Tests.{leb-true, leb-false, ne_eqb}
use Rattle.paper.specs.Lists.{has, below, all, any, keep, find, gather, lowest}
use Rattle.paper.specs.Limits.{limits}
use Rattle.paper.specs.Answers.{Answer, refused, good, ◌>>=◌, need, known, judged_by, is_good}
use Rattle.paper.specs.Table.{nodes, edges, kind, upper, source, out, outputs, is_initial, is_action, is_incoming, is_outgoing, is_object_node, is_activity_final, frame_fine, node_fine, edge_fine, shape_fine, table_fine}
use Rattle.paper.specs.Marking.{Marking, blank, encode, marking, has_tokens, ended_of}
use Rattle.paper.specs.Offers.{value, guards_fine, bounds_fine, Terms, goes_over, offers, sizes_fine, target_of}
use Rattle.paper.specs.Choices.{Board, board_of, board, how_many, end, taken, taken_ends, arrivals, rule1, rule2, rule3, rules, spent, spend, gain, close, next}
use Rattle.paper.specs.Operations.{check, value_lists, given, room_in, start_of, start, sheet, PickIf, Pick, WhyIf, Why, rising, choice_of, step_of, step, idled, finish_of, finish, packed, in_room, Reply, Leaves}
use Rattle.paper.proofs.Bools.{and-true, true_or_false, either_way}
use Rattle.paper.proofs.Members.{In, here, later, in_below, in_keep}
use Rattle.paper.proofs.Lists.{all-below, lowest-is}
use Rattle.paper.proofs.Lengths.{length-each, length-keep, length-gather_le}
use Rattle.paper.proofs.Tables.{frame_facts, table-good, upper_fits}
use Rattle.paper.proofs.OneMarking.{encode-length, read-room}
use Rattle.paper.proofs.Stepped.{shorter, single, single_few}
use Rattle.paper.proofs.Boards.{board-good}
use Rattle.paper.proofs.Sizes.{few-ends, choice_most, sheet_most}
use Rattle.paper.proofs.Calls.{Call, checks, starts, sheets, picks, whys, steps, finishes, AllowedBy}
use Rattle.paper.proofs.SameAnswer.{number_of, place_of, reply_of, word_of, OneBracket, same-bytes-same-answer}

-- ---- ladders: every refusal has the number of a row and a small place, and of what passes P holds
abbrev IsRow : ℕ → Type 0
IsRow n = (1 ≤ n) × (n ≤ 18)

abbrev Rows : {A : Type 0} → (A → Type 0) → Answer A → Type 0
Rows P (refused n p) = IsRow n × (p < 256)
Rows P (good a) = P a

-- nothing is said of what passes
abbrev Passed : {A : Type 0} → A → Type 0
Passed a = Unit {0}

rows_then : {A B : Type 0} (P : A → Type 0) (Q : B → Type 0) (r : Answer A) (f : A → Answer B) → Rows P r → ((a : A) → r ≡ good a → P a → Rows Q (f a)) → Rows Q (r >>= f)
rows_then P Q (refused n p) f h k = h
rows_then P Q (good a) f h k = k a refl h

need-rows : (n : ℕ) (b : Bool) → IsRow n → Rows (λ u. b ≡ true) (need n b)
need-rows n true h = refl
need-rows n false h = (h, omega arith)

known-rows : {A : Type 0} (n : ℕ) (o : Option A) → IsRow n → Rows (λ a. o ≡ some a) (known n o)
known-rows n none h = (h, omega arith)
known-rows n (some a) h = refl

seen : {A : Type 0} (o : Option A) → (o ≡ none) ⊎ ((a : A) × (o ≡ some a))
seen none = inl refl
seen (some a) = inr (a, refl)

find_in : {A : Type 0} (p : A → Bool) (xs : List A) (x : A) → find p xs ≡ some x → In x xs
find_in p [] x h = absurd (let z : ◌≡◌ {A = ℕ} 0 1 = cc in omega arith)
find_in p (y ∷ ys) x h = by (p y) h (find_in p ys x)
  where
    by : (b : Bool) → cond b (some y) (find p ys) ≡ some x → (find p ys ≡ some x → In x ys) → In x (y ∷ ys)
    by true e k = here (let z : x ≡ y = cc in z)
    by false e k = later (k e)

-- ---- rows 1 to 4
table-rows : (t : List ℕ) → Rows Passed (table_fine t limits)
unfolding table_fine
table-rows t = ⊎_elim framed (λ e. rw e ((omega arith, omega arith), omega arith)) (true_or_false (frame_fine t limits))
  where
    framed : frame_fine t limits ≡ true → Rows Passed (table_fine t limits)
    framed e =
        let f = frame_facts t limits e in
        ⊎_elim
        (λ e2. ⊎_elim
        (λ e3. ⊎_elim
        (λ e4. rw e (rw e2 (rw e3 (rw e4 tt))))
        (λ q. rw e (rw e2 (rw e3 (rw q.1 ((omega arith, omega arith), omega (arith, f.nodes_fit, (lowest-is (λ i. not (shape_fine t limits i)) (nodes t) q.0 q.1).below_n))))))
        (seen (lowest (λ i. not (shape_fine t limits i)) (nodes t))))
        (λ q. rw e (rw e2 (rw q.1 ((omega arith, omega arith), omega (arith, f.edges_fit, (lowest-is (λ j. not (edge_fine t j)) (edges t) q.0 q.1).below_n)))))
        (seen (lowest (λ j. not (edge_fine t j)) (edges t))))
        (λ q. rw e (rw q.1 ((omega arith, omega arith), omega (arith, f.nodes_fit, (lowest-is (λ i. not (node_fine t limits i)) (nodes t) q.0 q.1).below_n))))
        (seen (lowest (λ i. not (node_fine t limits i)) (nodes t)))

-- ---- rows 5 to 8
board-rows : (t b : List ℕ) (w : Terms) → Rows Passed (board t b w)
unfolding board board_of
board-rows t b w =
    rows_then Passed Passed (table_fine t limits) _ (table-rows t)
    (λ u e x. rows_then (λ m. marking t b ≡ some m) Passed (known 5 (marking t b)) _ (known-rows 5 (marking t b) (omega arith, omega arith))
    (λ m e x. rows_then _ Passed (need 6 (not m.ended)) _ (need-rows 6 (not m.ended) (omega arith, omega arith))
    (λ u e x. rows_then _ Passed (need 7 (guards_fine t w.guards)) _ (need-rows 7 (guards_fine t w.guards) (omega arith, omega arith))
    (λ u e x. rows_then _ Passed (need 18 (bounds_fine t w.bounds)) _ (need-rows 18 (bounds_fine t w.bounds) (omega arith, omega arith))
    (λ u e x. rows_then _ Passed (need 8 (sizes_fine t (offers t (goes_over w) m))) _ (need-rows 8 (sizes_fine t (offers t (goes_over w) m)) (omega arith, omega arith)) (λ u e x. tt))))))

-- ---- rows 10 to 12
module _ (t b : List ℕ) (w : Terms) (d : Board) (h : board t b w ≡ good d) where
  few-nodes : nodes d.table ≤ limits.most_nodes
  few-nodes = let f = board-good t b w d h in rw f.facts.is-table (table-good t limits f.table-fine).frame.nodes_fit

  rule1-place : (c p : ℕ) → rule1 d c ≡ some p → p < 256
  unfolding rule1 taken
  rule1-place c p e =
      let i = in_keep (has c) (below (how_many d)) (find_in _ (taken d c) p e) in
      omega (arith, in_below (how_many d) i.0, few-ends t b w d h)

  rule2-place : (c p : ℕ) → rule2 d c ≡ some p → p < 256
  unfolding rule2
  rule2-place c p e = omega (arith, (lowest-is _ (nodes d.table) p e).below_n, few-nodes)

  rule3-place : (c p : ℕ) → rule3 d c ≡ some p → p < 256
  unfolding rule3
  rule3-place c p e = omega (arith, (lowest-is _ (nodes d.table) p e).below_n, few-nodes)

  judged_rows : (c : ℕ) → Rows Passed (judged_by (rules d) c)
  judged_rows c =
      ⊎_elim
      (λ e1. ⊎_elim
      (λ e2. ⊎_elim
      (λ e3. rw e1 (rw e2 (rw e3 tt)))
      (λ q. rw e1 (rw e2 (rw q.1 ((omega arith, omega arith), rule3-place c q.0 q.1)))) (seen (rule3 d c)))
      (λ q. rw e1 (rw q.1 ((omega arith, omega arith), rule2-place c q.0 q.1))) (seen (rule2 d c)))
      (λ q. rw q.1 ((omega arith, omega arith), rule1-place c q.0 q.1)) (seen (rule1 d c))

-- ---- how long a marking is that is written
-- no stock of a node is over k
abbrev Most : ℕ → List ℕ → Marking → Type 0
Most k t m = (i : ℕ) → i < nodes t → length (m.stock i) ≤ k

-- row 16 was passed
room_most : (t : List ℕ) (m : Marking) → table_fine t limits ≡ good tt → room_in t m ≡ true → Most 16 t m
unfolding room_in
room_most t m f h i l =
    let r = and-true (all (λ n. leb (length (m.stock n)) (upper t n)) (below (nodes t))) _ h in
    let s : length (m.stock i) ≤ upper t i = leb-true _ _ (all-below (λ n. leb (length (m.stock n)) (upper t n)) (nodes t) r.0 i l) in
    omega (arith, upper_fits ((table-good t limits f).node i l))

-- a reply of at most n bytes
abbrev UpTo : ℕ → List ℕ → Type 0
UpTo n b = length b ≤ n

written_16 : (t : List ℕ) (m : Marking) → table_fine t limits ≡ good tt → Most 16 t m → UpTo limits.longest_marking (encode t m)
written_16 t m f h = let r = (table-good t limits f).frame in omega (arith, encode-length t 16 m h)

-- a step adds to a stock at most as many values as there are ends
abbrev most_stepped : ℕ
most_stepped = 4 + (1 + 4 * 36) * limits.most_nodes + limits.most_edges

written_36 : (t : List ℕ) (m : Marking) → table_fine t limits ≡ good tt → Most 36 t m → UpTo most_stepped (encode t m)
written_36 t m f h = let r = (table-good t limits f).frame in omega (arith, encode-length t 36 m h)

-- ---- start and finish
start_of-rows : (t b : List ℕ) → table_fine t limits ≡ good tt → Rows (Most 16 t) (start_of t b)
unfolding start_of
start_of-rows t b f =
    let ps = keep (λ n. is_incoming (kind t n)) (below (nodes t)) in
    rows_then _ (Most 16 t) (known 15 (value_lists ps b)) _ (known-rows 15 (value_lists ps b) (omega arith, omega arith))
    (λ vss e x.
    let m = given (λ e. has_tokens t e && is_initial (kind t (source t e))) ps vss (blank false) in
    rows_then _ (Most 16 t) (need 16 (room_in t m)) _ (need-rows 16 (room_in t m) (omega arith, omega arith)) (λ u e r. room_most t m f r))

start-rows : (t b : List ℕ) → Rows (UpTo limits.longest_marking) (start t b)
unfolding start
start-rows t b =
    rows_then Passed (UpTo limits.longest_marking) (table_fine t limits) _ (table-rows t)
    (λ u f x. rows_then (Most 16 t) (UpTo limits.longest_marking) (start_of t b) _ (start_of-rows t b f) (λ m e r. written_16 t m f r))

finish_of-rows : (t : List ℕ) (m : Marking) (a : ℕ) (vs : List ℕ) → table_fine t limits ≡ good tt → Rows (Most 16 t) (finish_of t m a vs)
unfolding finish_of
finish_of-rows t m a vs f =
    rows_then _ (Most 16 t) (need 6 (not m.ended)) _ (need-rows 6 (not m.ended) (omega arith, omega arith))
    (λ u e x. rows_then _ (Most 16 t) (need 14 (ltb a (nodes t) && is_action (kind t a) && m.runs a)) _ (need-rows 14 (ltb a (nodes t) && is_action (kind t a) && m.runs a) (omega arith, omega arith))
    (λ u e x. rows_then _ (Most 16 t) (known 15 (value_lists (outputs t a) vs)) _ (known-rows 15 (value_lists (outputs t a) vs) (omega arith, omega arith))
    (λ vss e x.
    let m' = given (λ e. has_tokens t e && eqb (source t e) a) (outputs t a) vss (idled t a m) in
    rows_then _ (Most 16 t) (need 16 (room_in t m')) _ (need-rows 16 (room_in t m') (omega arith, omega arith)) (λ u e r. room_most t m' f r))))

finish-rows : (t b : List ℕ) (a : ℕ) (vs : List ℕ) → Rows (UpTo limits.longest_marking) (finish t b a vs)
unfolding finish
finish-rows t b a vs =
    rows_then Passed (UpTo limits.longest_marking) (table_fine t limits) _ (table-rows t)
    (λ u f x. rows_then _ (UpTo limits.longest_marking) (known 5 (marking t b)) _ (known-rows 5 (marking t b) (omega arith, omega arith))
    (λ m e x. rows_then (Most 16 t) (UpTo limits.longest_marking) (finish_of t m a vs) _ (finish_of-rows t m a vs f) (λ m' e r. written_16 t m' f r)))

-- ---- step: a stock of 16 at most, and 20 ends at most
module _ (t b : List ℕ) (w : Terms) (d : Board) (h : board t b w ≡ good d) (c : ℕ) where
  few-taken : length (taken_ends d c) ≤ 20
  unfolding taken_ends
  few-taken = omega (arith, length-each (end d) (taken d c), choice_most t b w d h c)

  few_come : (i : ℕ) → length (gather (λ o. single (value o)) (arrivals d c i)) ≤ 20
  unfolding arrivals
  few_come i =
      omega (arith, length-gather_le (λ o. single (value o)) 1 (λ o. single_few (value o)) (arrivals d c i), length-keep (λ o. eqb (target_of d.table o) i) (taken_ends d c), few-taken)

  moved_most : Most 36 t (gain d c (spend d c d.current))
  unfolding gain spend
  moved_most i l =
      let f = board-good t b w d h in
      let r = read-room t b d.current f.is_read i in
      let u = upper_fits ((table-good t limits f.table-fine).node i l) in
      let s = d.current.stock i in
      let left = cond (any (spent d c) (out d.table i)) (drop 1 s) s in
      let came = gather (λ o. single (value o)) (arrivals d c i) in
      let a : length left ≤ length s = either_way (λ (x : List ℕ). length x ≤ length s) (any (spent d c) (out d.table i)) (drop 1 s) s (shorter s) (omega arith) in
      let e : length (cond (is_object_node (kind d.table i)) came []) ≤ 20 = either_way (λ (x : List ℕ). length x ≤ 20) (is_object_node (kind d.table i)) came [] (few_come i) (omega arith) in
      omega (arith, length-append left (cond (is_object_node (kind d.table i)) came []))

  ended_most : (m : Marking) → Most 36 t m → Most 36 t (ended_of d.table m)
  unfolding ended_of
  ended_most m r i l = either_way (λ (x : List ℕ). length x ≤ 36) (is_outgoing (kind d.table i)) (m.stock i) [] (r i l) (omega arith)

  next_most : Most 36 t (next d c)
  unfolding next close
  next_most =
      let m = gain d c (spend d c d.current) in
      either_way (Most 36 t) (any (λ o. is_activity_final (kind d.table (target_of d.table o))) (taken_ends d c)) (ended_of d.table m) m (ended_most m moved_most) moved_most

step-rows : (t b : List ℕ) (w : Terms) (ks : List ℕ) → Rows (UpTo most_stepped) (step t b w ks)
unfolding step step_of
step-rows t b w ks =
    rows_then Passed (UpTo most_stepped) (board t b w) _ (board-rows t b w)
    (λ d e x. rows_then (Most 36 t) (UpTo most_stepped) (step_of d ks) _
    (rows_then _ (Most 36 t) (need 9 (rising ks && all (λ k. ltb k (how_many d)) ks)) _ (need-rows 9 (rising ks && all (λ k. ltb k (how_many d)) ks) (omega arith, omega arith))
    (λ u q x. rows_then Passed (Most 36 t) (judged_by (rules d) (choice_of ks)) _ (judged_rows t b w d e (choice_of ks)) (λ u q x. next_most t b w d e (choice_of ks))))
    (λ m q r. written_36 t m (board-good t b w d e).table-fine r))

-- ---- check, sheet, pick and why
check-rows : (t : List ℕ) → Rows (UpTo 0) (check t)
unfolding check
check-rows t = rows_then Passed (UpTo 0) (table_fine t limits) _ (table-rows t) (λ u e x. omega arith)

sheet-rows : (t b : List ℕ) (w : Terms) → Rows (UpTo 2864) (sheet t b w)
unfolding sheet
sheet-rows t b w = rows_then Passed (UpTo 2864) (board t b w) _ (board-rows t b w) (λ d e x. sheet_most t b w d e)

pick_rows : (t b : List ℕ) (w : Terms) (n : ℕ) → n < 256 → (a : Answer (List ℕ)) → Pick t b w n a → Rows Passed a
unfolding Pick
pick_rows t b w n l = by (board t b w) (board-rows t b w)
  where
    by : (r : Answer Board) → Rows Passed r → (a : Answer (List ℕ)) → PickIf r n a → Rows Passed a
    by (refused k p) s a h = rw h s
    by (good d) s (refused k p) h = ((omega (arith, h.0), omega (arith, h.0)), omega (arith, h.1))
    by (good d) s (good ks) h = tt

-- whatever number is lent
pick_most : (t b : List ℕ) (w : Terms) (n : ℕ) (a : Answer (List ℕ)) → Pick t b w n a → UpTo 20 (reply_of a)
unfolding Pick
pick_most t b w n = by (board t b w) refl
  where
    by : (r : Answer Board) → board t b w ≡ r → (a : Answer (List ℕ)) → PickIf r n a → UpTo 20 (reply_of a)
    by (refused k p) e a h = rw h (omega arith)
    by (good d) e (refused k p) h = omega arith
    by (good d) e (good ks) h = omega (arith, ap length h.2, choice_most t b w d e h.0)

why_rows : (t b : List ℕ) (w : Terms) (n : ℕ) (a : Answer (List ℕ)) → Why t b w n a → Rows (UpTo 1) a
unfolding Why
why_rows t b w n = by (board t b w) (board-rows t b w)
  where
    by : (r : Answer Board) → Rows Passed r → (a : Answer (List ℕ)) → WhyIf r n a → Rows (UpTo 1) a
    by (refused k p) s a h = rw h s
    by (good d) s a h = rw h.2 (omega arith)

-- ---- how long a reply is, of any call
-- a step's is 4,096 at most where what is lent are bytes: `EnoughRoom`
abbrev pub most_reply : Call → ℕ
most_reply (checks t) = 0
most_reply (starts t b) = limits.longest_marking
most_reply (sheets t b w) = 2864
most_reply (picks t b w n) = 20
most_reply (whys t b w n) = 1
most_reply (steps t b w ks) = most_stepped
most_reply (finishes t b a vs) = limits.longest_marking

rows-reply : (n : ℕ) (a : Answer (List ℕ)) → Rows (UpTo n) a → UpTo n (reply_of a)
rows-reply n (refused k p) h = omega arith
rows-reply n (good b) h = h

pub replies_most : (c : Call) (a : Answer (List ℕ)) → AllowedBy c a → length (reply_of a) ≤ most_reply c
replies_most (checks t) a h = rw h (rows-reply 0 (check t) (check-rows t))
replies_most (starts t b) a h = rw h (rows-reply limits.longest_marking (start t b) (start-rows t b))
replies_most (sheets t b w) a h = rw h (rows-reply 2864 (sheet t b w) (sheet-rows t b w))
replies_most (picks t b w n) a h = pick_most t b w n a h
replies_most (whys t b w n) a h = rows-reply 1 a (why_rows t b w n a h)
replies_most (steps t b w ks) a h = rw h (rows-reply most_stepped (step t b w ks) (step-rows t b w ks))
replies_most (finishes t b x vs) a h = rw h (rows-reply limits.longest_marking (finish t b x vs) (finish-rows t b x vs))

most_short : (c : Call) → most_reply c < 2 ^ 32
most_short (checks t) = omega arith
most_short (starts t b) = omega arith
most_short (sheets t b w) = omega arith
most_short (picks t b w n) = omega arith
most_short (whys t b w n) = omega arith
most_short (steps t b w ks) = omega arith
most_short (finishes t b a vs) = omega arith

-- the word has room for its length
pub replies_short : (c : Call) (a : Answer (List ℕ)) → AllowedBy c a → length (reply_of a) < 2 ^ 32
replies_short c a h = omega (arith, replies_most c a h, most_short c)

-- ---- number and place, of any call
-- the node that pick is asked for is one byte; no other number is lent that can become a place
abbrev pub ByteNode : Call → Type 0
ByteNode (checks t) = Unit {0}
ByteNode (starts t b) = Unit {0}
ByteNode (sheets t b w) = Unit {0}
ByteNode (picks t b w n) = n < 256
ByteNode (whys t b w n) = Unit {0}
ByteNode (steps t b w ks) = Unit {0}
ByteNode (finishes t b a vs) = Unit {0}

-- the number is 0 exactly if the answer is no refusal
abbrev Small : Answer (List ℕ) → Type 0
Small a = (eqb (number_of a) 0 ≡ is_good a) × (number_of a ≤ 18) × (place_of a < 256)

rows-small : (P : List ℕ → Type 0) (a : Answer (List ℕ)) → Rows P a → Small a
rows-small P (refused n p) h = (ne_eqb n 0 (λ e. omega (arith, h.0.0)), h.0.1, h.1)
rows-small P (good b) h = (refl, omega arith, omega arith)

small : (c : Call) → ByteNode c → (a : Answer (List ℕ)) → AllowedBy c a → Small a
small (checks t) l a h = rw h (rows-small (UpTo 0) (check t) (check-rows t))
small (starts t b) l a h = rw h (rows-small (UpTo limits.longest_marking) (start t b) (start-rows t b))
small (sheets t b w) l a h = rw h (rows-small (UpTo 2864) (sheet t b w) (sheet-rows t b w))
small (picks t b w n) l a h = rows-small Passed a (pick_rows t b w n l a h)
small (whys t b w n) l a h = rows-small (UpTo 1) a (why_rows t b w n a h)
small (steps t b w ks) l a h = rw h (rows-small (UpTo most_stepped) (step t b w ks) (step-rows t b w ks))
small (finishes t b x vs) l a h = rw h (rows-small (UpTo limits.longest_marking) (finish t b x vs) (finish-rows t b x vs))

-- an answer that a word can say
pub record Sayable (a : Answer (List ℕ)) : Type 0 where
  pub number_tells : eqb (number_of a) 0 ≡ is_good a
  pub number_fits : number_of a ≤ 18
  pub place-fits : place_of a < 256
  pub length-fits : length (reply_of a) < 2 ^ 32

-- whatever an operation answers, a word can say it
pub answers_sayable : (c : Call) → ByteNode c → (a : Answer (List ℕ)) → AllowedBy c a → Sayable a
answers_sayable c l a h = let s = small c l a h in record { number_tells = s.0; number_fits = s.1; place-fits = s.2; length-fits = replies_short c a h }

-- cut to the room, too
pub room_sayable : (room : ℕ) (a : Answer (List ℕ)) → Sayable a → Sayable (in_room room a)
room_sayable room (refused n p) s = s
room_sayable room (good b) s =
    either_way Sayable (leb (length b) room) (good b) (refused 17 0) s (record { number_tells = refl; number_fits = omega arith; place-fits = omega arith; length-fits = omega arith })

-- ---- the word gives number, place and length back, its number is 0 exactly if nothing is refused, and it fits in 64 bits
pub record Says (word : ℕ) (a : Answer (List ℕ)) : Type 0 where
  pub granted : eqb (word / 2 ^ 48) 0 ≡ is_good a
  pub number : word / 2 ^ 48 ≡ number_of a
  pub place : word / 2 ^ 32 % 2 ^ 16 ≡ place_of a
  pub len : word % 2 ^ 32 ≡ length (reply_of a)
  pub bits : word < 2 ^ 64

pub word-says : (a : Answer (List ℕ)) → Sayable a → Says (word_of a) a
word-says a s =
    let n = s.number_fits in
    let p = s.place-fits in
    let l = s.length-fits in
    let e : word_of a / 2 ^ 48 ≡ number_of a = omega arith in
    record { granted = ap (λ (k : ℕ). eqb k 0) e ∙ s.number_tells; number = e; place = omega arith; len = omega arith; bits = omega arith }

-- so two answers with one word, of any two calls, have one number, one place and one length, and both are refusals or neither
pub word-one_to_one : (c e : Call) → ByteNode c → ByteNode e → (a b : Answer (List ℕ)) → AllowedBy c a → AllowedBy e b → word_of a ≡ word_of b
    → (number_of a ≡ number_of b) × (place_of a ≡ place_of b) × (length (reply_of a) ≡ length (reply_of b)) × (is_good a ≡ is_good b)
word-one_to_one c e m n a b h i w =
    let x = word-says a (answers_sayable c m a h) in
    let y = word-says b (answers_sayable e n b i) in (
      sym x.number ∙ ap (λ (k : ℕ). k / 2 ^ 48) w ∙ y.number,
      sym x.place ∙ ap (λ (k : ℕ). k / 2 ^ 32 % 2 ^ 16) w ∙ y.place,
      sym x.len ∙ ap (λ (k : ℕ). k % 2 ^ 32) w ∙ y.len,
      sym x.granted ∙ ap (λ (k : ℕ). eqb (k / 2 ^ 48) 0) w ∙ y.granted,
    )

-- ---- the word that a call returns
reply-word : (a : Answer (List ℕ)) (w : ℕ) (before after : List ℕ) → Reply a w before after → w ≡ word_of a
reply-word (refused n p) w before after h = h.0
reply-word (good b) w before after h = h.0

-- it says the answer, cut to the room
pub returned_says : (c : Call) → ByteNode c → (w : ℕ) (before after : List ℕ) (l : Leaves (AllowedBy c) w before after) → Says w (in_room (length before) l.answer)
returned_says c n w before after l =
    rw (reply-word (in_room (length before) l.answer) w before after l.reply)
    (word-says (in_room (length before) l.answer) (room_sayable (length before) l.answer (answers_sayable c n l.answer l.allowed)))

-- so the word that a call returns settles number, place and length of one answer that the definition allows, cut to the room
abbrev pub SaysAnswer : Call → ℕ → ℕ → Type 0
SaysAnswer c room w = (a : Answer (List ℕ)) × AllowedBy c a × Says w (in_room room a)

pub says-answer : (c : Call) → ByteNode c → (w : ℕ) (before after : List ℕ) → Leaves (AllowedBy c) w before after → SaysAnswer c (length before) w
says-answer c n w before after l = (l.answer, l.allowed, returned_says c n w before after l)

-- ---- five refreshes, in what an app sees: the word, and as many bytes at the front as its length says
abbrev pub shown : ℕ → List ℕ → List ℕ
shown word after = take (word % 2 ^ 32) after

-- where both rooms hold the reply, both calls show it
pub same-shown : (c : Call) {w v : ℕ} {before after before' after' : List ℕ} (o : OneBracket (AllowedBy c) w before after v before' after')
    → length (reply_of o.answer) ≤ length before → length (reply_of o.answer) ≤ length before' → (w ≡ v) × (shown w after ≡ shown v after')
same-shown c {w} {v} o h i =
    let n = length (reply_of o.answer) in
    let s = o.same h i in
    let l = replies_short c o.answer o.allowed in
    let e : w % 2 ^ 32 ≡ n = omega (arith, (o.first.held h).0) in
    let f : v % 2 ^ 32 ≡ n = omega (arith, (o.second.held i).0) in
    (s.0, rw (e, f) (s.1 ∙ sym s.2))

-- unless a room was too short for it, which 17 says, every call on the same bytes returns the same word and shows the same bytes
pub refreshes_agree : (c : Call) (w v : ℕ) (before after before' after' : List ℕ) → Leaves (AllowedBy c) w before after → Leaves (AllowedBy c) v before' after'
    → (w ≡ packed 17 0 0 → ⊥) → (v ≡ packed 17 0 0 → ⊥) → (w ≡ v) × (shown w after ≡ shown v after')
refreshes_agree c w v before after before' after' x y p q =
    let o = same-bytes-same-answer c w v before after before' after' x y in
    same-shown c o (enough before (λ l. p (o.first.not-held l).0)) (enough before' (λ l. q (o.second.not-held l).0))
  where
    enough : {n : ℕ} (room : List ℕ) → (length room < n → ⊥) → n ≤ length room
    enough {n} room h = ⊎_elim (λ e. leb-true n (length room) e) (λ e. absurd (h (omega (arith, leb-false n (length room) e)))) (true_or_false (leb n (length room)))
