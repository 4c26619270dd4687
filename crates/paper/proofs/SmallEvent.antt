-- The small event: the paper's list "To prove, as one table (T the table, M the marking)" as a table, `cases`, in its order and numbers, and one theorem that
-- every row holds, `small_event`; and the same event under bounds, `bound_cases`. Its two ends have changed places with wish 5 ("Cases follow."): C1, C4, C5, C7
-- and C11 are the paper's with the other end's number, C2, C3 and C12 keep theirs. Assumes nothing.
use Prim.Native.Nat.{ℕ}
use mathlib.Core.Path.{◌≡◌, refl, sym, subst}
use mathlib.Core.Logic.{⊎_elim}
use mathlib.Core.List.{List, [], ◌∷◌, ◌++◌}
use lib.ListN.{set}
use Rattle.paper.specs.Lists.{each}
use Rattle.paper.specs.Answers.{Answer, refused, good}
use Rattle.paper.specs.Bytes.{four}
use Rattle.paper.specs.Table.{node_at}
use Rattle.paper.specs.Offers.{Terms, terms, no_bounds}
use Rattle.paper.specs.Operations.{start, Leaves}
use Rattle.paper.specs.Program.{Prints}
use Rattle.paper.proofs.Members.{In, in-none, in-cons}
use Rattle.paper.proofs.EmptyChoice.{picks as picked}
use Rattle.paper.proofs.Calls.{Call, sheets, picks, steps, finishes, AllowedBy, one-allowed}
use Rattle.paper.proofs.SameAnswer.{word_of, Left, leaves-left}
use Rattle.paper.proofs.Computed.{computed}

-- the table; node 2 is a decision, node 3 a join, node 4 the pin of action 5, node 6 a buffer
abbrev pub T : List ℕ
T =
    0x00 ∷ 0x33 ∷ 0x01 ∷ 0x07 ∷ 0x05 ∷
    0x01 ∷ 0xFF ∷ 0x00 ∷ 0x00 ∷
    0x06 ∷ 0xFF ∷ 0x00 ∷ 0x04 ∷
    0x08 ∷ 0xFF ∷ 0x00 ∷ 0x00 ∷
    0x0B ∷ 0xFF ∷ 0x00 ∷ 0x00 ∷
    0x03 ∷ 0x05 ∷ 0x01 ∷ 0x01 ∷
    0x02 ∷ 0xFF ∷ 0x00 ∷ 0x00 ∷
    0x05 ∷ 0xFF ∷ 0x00 ∷ 0x02 ∷
    0x00 ∷ 0x00 ∷ 0x03 ∷ 0x00 ∷
    0x01 ∷ 0x01 ∷ 0x02 ∷ 0x00 ∷
    0x01 ∷ 0x02 ∷ 0x03 ∷ 0x01 ∷
    0x01 ∷ 0x02 ∷ 0x06 ∷ 0x01 ∷
    0x01 ∷ 0x03 ∷ 0x04 ∷ 0x00 ∷ []

-- C12: node 2 made a fork, its kind being the first of its four bytes
abbrev pub T12 : List ℕ
T12 = set T (node_at T 2) 0x0A

abbrev pub M : List ℕ
M = 0x00 ∷ 0x0F ∷ 0x01 ∷ 0x00 ∷ 0x02 ∷ 0x00 ∷ 0x00 ∷ 0x00 ∷ 0x07 ∷ 0x00 ∷ 0x00 ∷ 0x00 ∷ 0x09 ∷ 0x00 ∷ 0x00 ∷ 0x00 ∷ 0x01 ∷ []

-- C11: node 6 holding two
abbrev pub M11 : List ℕ
M11 = 0x00 ∷ 0x17 ∷ 0x01 ∷ 0x00 ∷ 0x02 ∷ 0x00 ∷ 0x00 ∷ 0x00 ∷ 0x07 ∷ 0x00 ∷ 0x00 ∷ 0x00 ∷ 0x09 ∷ 0x00 ∷ 0x00 ∷ 0x02 ∷ 0x00 ∷ 0x00 ∷ 0x00 ∷ 0x01 ∷ 0x00 ∷ 0x00 ∷ 0x00 ∷ 0x02 ∷ 0x01 ∷ []

-- "Guards: five bytes 01."; no bounds
abbrev pub guards : List ℕ
guards = 0x01 ∷ 0x01 ∷ 0x01 ∷ 0x01 ∷ 0x01 ∷ []

abbrev pub W : Terms
W = terms guards no_bounds

-- C9: guard 3 at 0
abbrev pub W9 : Terms
W9 = terms (set guards 3 0x00) no_bounds

-- C7: what step 0 writes
abbrev pub M7 : List ℕ
M7 = 0x00 ∷ 0x0F ∷ 0x01 ∷ 0x00 ∷ 0x01 ∷ 0x00 ∷ 0x00 ∷ 0x00 ∷ 0x09 ∷ 0x01 ∷ 0x00 ∷ 0x00 ∷ 0x00 ∷ 0x07 ∷ 0x01 ∷ 0x00 ∷ 0x00 ∷ []

-- C8: and then finish 5
abbrev pub M8 : List ℕ
M8 = 0x00 ∷ 0x0B ∷ 0x01 ∷ 0x00 ∷ 0x01 ∷ 0x00 ∷ 0x00 ∷ 0x00 ∷ 0x09 ∷ 0x00 ∷ 0x00 ∷ 0x00 ∷ 0x00 ∷ []

-- C1: the sheet of the two ends, on edge 4 to node 4, value 7, paths 0,4 and 1,2,4; on edge 3 to node 6, value 7, path 1,3
abbrev pub two_ends : List ℕ
two_ends =
    0x00 ∷ 0x1A ∷ 0x01 ∷ 0x02 ∷
    0x04 ∷ 0x01 ∷ 0x00 ∷ 0x00 ∷ 0x00 ∷ 0x07 ∷ 0x02 ∷ 0x02 ∷ 0x00 ∷ 0x04 ∷ 0x03 ∷ 0x01 ∷ 0x02 ∷ 0x04 ∷
    0x03 ∷ 0x01 ∷ 0x00 ∷ 0x00 ∷ 0x00 ∷ 0x07 ∷ 0x01 ∷ 0x02 ∷ 0x01 ∷ 0x03 ∷ []

-- C9: of the first alone
abbrev pub one_end : List ℕ
one_end =
    0x00 ∷ 0x10 ∷ 0x01 ∷ 0x01 ∷
    0x04 ∷ 0x01 ∷ 0x00 ∷ 0x00 ∷ 0x00 ∷ 0x07 ∷ 0x02 ∷ 0x02 ∷ 0x00 ∷ 0x04 ∷ 0x03 ∷ 0x01 ∷ 0x02 ∷ 0x04 ∷ []

-- ---- the table: case number, call, answer
pub record Case : Type 0 where
  pub number : ℕ
  pub call : Call
  pub answer : Answer (List ℕ)

abbrev pub c : ℕ → Call → Answer (List ℕ) → Case
c n call answer = record { number = n; call = call; answer = answer }

abbrev pub cases : List Case
cases =
    -- the two ends above
    c 1 (sheets T M W) (good two_ends) ∷
    -- choice 0,1: refusal 10 place 0
    c 2 (steps T M W (0 ∷ 1 ∷ [])) (refused 10 0) ∷
    -- pick: 0, which now starts the action
    c 3 (picks T M W 255) (good (0 ∷ [])) ∷
    -- pick for node 5: 0
    c 4 (picks T M W 5) (good (0 ∷ [])) ∷
    -- for node 4: 0
    c 5 (picks T M W 4) (good (0 ∷ [])) ∷
    -- for node 2: 13 place 2
    c 6 (picks T M W 2) (refused 13 2) ∷
    -- step 0: `000F 01 00 01 00000009 01 00000007 01 00 00`
    c 7 (steps T M W (0 ∷ [])) (good M7) ∷
    -- then finish 5, no bytes: `000B 01 00 01 00000009 00 00 00 00`
    c 8 (finishes T M7 5 []) (good M8) ∷
    -- guard 3 at 0: one end, on edge 4
    c 9 (sheets T M W9) (good one_end) ∷
    -- empty choice: M
    c 10 (steps T M W []) (good M) ∷
    -- node 6 holding two: step 1 gives 12 place 6
    c 11 (steps T M11 W (1 ∷ [])) (refused 12 6) ∷
    -- node 2 made a fork: step 0 gives 11 place 2, pick gives 0,1
    c 12 (steps T12 M W (0 ∷ [])) (refused 11 2) ∷
    c 12 (picks T12 M W 255) (good (0 ∷ 1 ∷ [])) ∷ []

-- what is proved of a row: its operation's definition allows the answer and no other, and whatever meets the operation's promise on the row's call, whatever
-- room is lent, returns the answer's word and leaves its bytes (`Left`)
pub record Holds (r : Case) : Type 0 where
  pub allowed : AllowedBy r.call r.answer
  pub no_other : (a : Answer (List ℕ)) → AllowedBy r.call a → a ≡ r.answer
  pub left : (word : ℕ) (before after : List ℕ) → Leaves (AllowedBy r.call) word before after → Left r.answer word before after

holds : (r : Case) → AllowedBy r.call r.answer → Holds r
holds r h = record {
  allowed = h;
  no_other = λ a i. one-allowed r.call a r.answer i h;
  left = leaves-left (one-allowed r.call) r.answer h;
}

-- each row's answer is computed on the definitions
abbrev pub Computed : List Case → Type 0
Computed [] = Unit {0}
Computed (r ∷ rs) = AllowedBy r.call r.answer × Computed rs

infixr 5 ◌also◌
abbrev pub ◌also◌ : {A B : Type 0} → A → B → A × B
◌also◌ a b = (a, b)

computed_rows : Computed cases
unfolding computed
computed_rows =
    refl also refl
    also picked T M W 255 also picked T M W 5 also picked T M W 4 also picked T M W 2
    also refl also refl also refl also refl also refl
    also refl also picked T12 M W 255 also tt

in_computed : (rs : List Case) → Computed rs → (r : Case) → In r rs → AllowedBy r.call r.answer
in_computed [] h r m = absurd (in-none m)
in_computed (q ∷ qs) h r m =
    ⊎_elim (λ e. subst (λ (x : Case). AllowedBy x.call x.answer) (sym e) h.0) (in_computed qs h.1 r) (in-cons m)

pub all_hold : (rs : List Case) → Computed rs → (r : Case) → In r rs → Holds r
all_hold rs h r m = holds r (in_computed rs h r m)

-- C1 to C12: every row of the table holds
pub small_event : (r : Case) → In r cases → Holds r
small_event = all_hold cases computed_rows

-- the words that they are, two bytes of number, two of place and four of length: 10 place 0, 13 place 2, 12 place 6, 11 place 2 are C2, C6, C11, C12
pub words : each (λ (r : Case). word_of r.answer) cases ≡
    0x000000000000001C ∷ 0x000A000000000000 ∷ 0x0000000000000001 ∷ 0x0000000000000001 ∷ 0x0000000000000001 ∷ 0x000D000200000000 ∷
    0x0000000000000011 ∷ 0x000000000000000D ∷ 0x0000000000000012 ∷ 0x0000000000000011 ∷ 0x000C000600000000 ∷
    0x000B000200000000 ∷ 0x0000000000000002 ∷ []
words = refl

-- ---- wish 1 on the small event: a list of one entry. Edge 1 has a first offer, 2 and 3 leave the decision, 4 the join; edge 0 is a control edge
abbrev bound : ℕ → ℕ → ℕ → Terms
bound e lowest highest = terms guards (0x00 ∷ 0x0B ∷ 0x01 ∷ 0x01 ∷ e ∷ four lowest ++ four highest)

abbrev pub bound_cases : List Case
bound_cases =
    -- both bounds count as inside
    c 1 (sheets T M (bound 3 7 7)) (good two_ends) ∷
    -- a branch of the decision bars the value
    c 2 (sheets T M (bound 3 8 4294967295)) (good one_end) ∷
    c 3 (sheets T M (bound 3 0 6)) (good one_end) ∷
    -- the first offer's edge does, so there is no end
    c 4 (sheets T M (bound 1 8 9)) (good (0x00 ∷ 0x02 ∷ 0x01 ∷ 0x00 ∷ [])) ∷
    -- the edge that leaves the join does: the end on edge 3 is left, and none is the action's
    c 5 (sheets T M (bound 4 8 9)) (good (0x00 ∷ 0x0C ∷ 0x01 ∷ 0x01 ∷ 0x03 ∷ 0x01 ∷ 0x00 ∷ 0x00 ∷ 0x00 ∷ 0x07 ∷ 0x01 ∷ 0x02 ∷ 0x01 ∷ 0x03 ∷ [])) ∷
    c 6 (picks T M (bound 4 8 9) 5) (refused 13 5) ∷
    c 7 (steps T M (bound 4 8 9) (0 ∷ [])) (good (0x00 ∷ 0x0F ∷ 0x01 ∷ 0x00 ∷ 0x01 ∷ 0x00 ∷ 0x00 ∷ 0x00 ∷ 0x09 ∷ 0x00 ∷ 0x00 ∷ 0x01 ∷ 0x00 ∷ 0x00 ∷ 0x00 ∷ 0x07 ∷ 0x01 ∷ [])) ∷
    -- "Control edges may not be listed.", "low above high", no such edge, no list at all
    c 8 (sheets T M (bound 0 0 9)) (refused 18 0) ∷
    c 9 (sheets T M (bound 3 9 8)) (refused 18 0) ∷
    c 10 (sheets T M (bound 5 0 9)) (refused 18 0) ∷
    c 11 (sheets T M (terms guards [])) (refused 18 0) ∷
    -- "after 7"
    c 12 (sheets T M (terms [] [])) (refused 7 0) ∷ []

computed_bounds : Computed bound_cases
unfolding computed
computed_bounds =
    refl also refl also refl also refl
    also refl also picked T M (bound 4 8 9) 5 also refl
    also refl also refl also refl also refl also refl also tt

pub bounds-on_the_small_event : (r : Case) → In r bound_cases → Holds r
bounds-on_the_small_event = all_hold bound_cases computed_bounds

-- ---- besides
-- start, given what node 1 holds, writes the marking
pub started : start T (0x02 ∷ 0x00 ∷ 0x00 ∷ 0x00 ∷ 0x07 ∷ 0x00 ∷ 0x00 ∷ 0x00 ∷ 0x09 ∷ []) ≡ good M
unfolding computed
started = refl

-- "Whole output", by wish 5: the lines `ends 2`, `0 4 4 7 0,4 1,2,4`, `1 3 6 7 1,3`, `pick 0`
pub printed : Prints (T ++ M ++ guards)
    (101 ∷ 110 ∷ 100 ∷ 115 ∷ 32 ∷ 50 ∷ 10 ∷ 48 ∷ 32 ∷ 52 ∷ 32 ∷ 52 ∷ 32 ∷ 55 ∷ 32 ∷ 48 ∷ 44 ∷ 52 ∷ 32 ∷ 49 ∷ 44 ∷ 50 ∷ 44 ∷ 52 ∷ 10 ∷ 49 ∷ 32 ∷ 51 ∷ 32 ∷ 54 ∷ 32 ∷ 55 ∷ 32 ∷ 49 ∷ 44 ∷ 51 ∷ 10 ∷ 112 ∷ 105 ∷ 99 ∷ 107 ∷ 32 ∷ 48 ∷ 10 ∷ [])
unfolding computed
printed = record { picked = good (0 ∷ []); allowed = picked T M W 255; is-text = refl }
