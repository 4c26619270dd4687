-- The empty choice: it is acceptable on every board, so pick has an answer wherever no node is named; and a step that takes nothing gives back the
-- bytes of the marking. Assumes nothing.
use mathlib.Core.Path.{◌≡◌, refl, ap, ◌∙◌}
use Prim.Native.Nat.{ℕ, ◌+◌, ◌≤◌}
use native.Mathlib.Nat.{add-zero}
use mathlib.Core.Bool.{Bool, true, false, not, ◌&&◌, ◌||◌, cond}
use mathlib.Core.List.{List, [], ◌++◌, append-nil}
use mathlib.Core.Option.{none}
use lib.Dec.{leb}
use lib.ListN.{length}
use borrow.Author.Tests.{le-leb}
use Rattle.paper.specs.Lists.{has, below, any, ◌⇒◌}
use Rattle.paper.specs.Answers.{Answer, refused, good, judged_by}
use Rattle.paper.specs.Table.{nodes, kind, upper, out, is_fork, is_action, is_buffer, is_outgoing, is_object_node}
use Rattle.paper.specs.Marking.{Marking, Field, stockOf, runsOf, tokensOf, encode}
use Rattle.paper.specs.Offers.{Terms}
use Rattle.paper.specs.Choices.{Board, board, how_many, taken, taken_ends, arrivals, taken_makers, rule1, passed_whole, rule2, action_agrees, agrees, rule3, rules, acceptable, spent, spend, gain, close, next}
use Rattle.paper.specs.Operations.{PickIf, Pick, step_of, step}
use Rattle.paper.proofs.Bools.{never, and_never}
use Rattle.paper.proofs.Members.{keep-none, none_any}
use Rattle.paper.proofs.Lists.{lowest-none}
use Rattle.paper.proofs.Bytes.{Bytes}
use Rattle.paper.proofs.OneMarking.{content, same_fields, read-room, read-is-good}
use Rattle.paper.proofs.Digits.{has-zero}
use Rattle.paper.proofs.Boards.{GoodBoard, board-good}
use Rattle.paper.proofs.Picks.{EmptyFine, searched, searched_picks}

-- ---- what it takes
module _ (d : Board) where
  pub takes_none : taken d 0 ≡ []
  unfolding taken
  takes_none = keep-none (has 0) (below (how_many d)) (λ k m. has-zero k)

  pub no_ends : taken_ends d 0 ≡ []
  unfolding taken_ends
  no_ends = rw takes_none

  pub no_makers : taken_makers d 0 ≡ []
  unfolding taken_makers
  no_makers = rw no_ends

  pub no_arrivals : (n : ℕ) → arrivals d 0 n ≡ []
  unfolding arrivals
  no_arrivals n = rw no_ends

  -- ---- the rules find nothing
  rule1-none : rule1 d 0 ≡ none
  unfolding rule1
  rule1-none = rw takes_none

  rule2-none : rule2 d 0 ≡ none
  unfolding rule2 passed_whole
  rule2-none = lowest-none _ (nodes d.table) (λ n l. rw no_makers (and_never (is_fork (kind d.table n))))

  module _ (room : (n : ℕ) → length (d.current.stock n) ≤ upper d.table n) where
    all_agree : (n : ℕ) → agrees d 0 n ≡ true
    unfolding agrees
    all_agree n =
        let r : leb (length (d.current.stock n) + 0) (upper d.table n) ≡ true = rw add-zero (le-leb _ _ (room n)) in
        rw (no_ends, no_arrivals n, r) (by (is_action (kind d.table n)) (is_buffer (kind d.table n) || is_outgoing (kind d.table n)))
      where
        by : (a b : Bool) → (a && false ⇒ action_agrees d 0 n) && (b ⇒ true) ≡ true
        by true true = refl
        by true false = refl
        by false true = refl
        by false false = refl

    rule3-none : rule3 d 0 ≡ none
    unfolding rule3
    rule3-none = lowest-none _ (nodes d.table) (λ n l. ap not (all_agree n))

    pub empty_judged : judged_by (rules d) 0 ≡ good tt
    empty_judged = rw (rule1-none, rule2-none, rule3-none)

    pub empty_acceptable : acceptable d 0 ≡ true
    unfolding acceptable
    empty_acceptable = rw empty_judged

-- no stock on a board is over upper
board-room : {t b : List ℕ} {w : Terms} {d : Board} → GoodBoard t b w d → (n : ℕ) → length (d.current.stock n) ≤ upper d.table n
board-room {t} {b} {d = d} f n = rw f.facts.is-table (read-room t b d.current f.is_read n)

-- the empty choice is acceptable on every board
pub empty_fine : (t b : List ℕ) (w : Terms) → EmptyFine (board t b w)
empty_fine t b w = by (board t b w) refl
  where
    by : (r : Answer Board) → board t b w ≡ r → EmptyFine r
    by (refused k p) e = tt
    by (good d) e = empty_acceptable d (board-room (board-good t b w d e))

-- ---- pick
-- the search meets the relation, so there always is an answer
pub picks : (t b : List ℕ) (w : Terms) (n : ℕ) → Pick t b w n (searched t b w n)
picks t b w n = searched_picks t b w n (empty_fine t b w)

-- on a board, pick is never refused where no node is named
pub unnamed_never_13 : (t b : List ℕ) (w : Terms) (d : Board) → board t b w ≡ good d → (k p : ℕ) → Pick t b w 255 (refused k p) → ⊥
unfolding Pick
unnamed_never_13 t b w d e k p h = let r : PickIf (good d) 255 (refused k p) = rw e at h in never false r.2.is-named refl

pub unnamed_picks : (t b : List ℕ) (w : Terms) (d : Board) → board t b w ≡ good d → (ks : List ℕ) × Pick t b w 255 (good ks)
unnamed_picks t b w d e = by (searched t b w 255) (picks t b w 255)
  where
    by : (a : Answer (List ℕ)) → Pick t b w 255 a → (ks : List ℕ) × Pick t b w 255 (good ks)
    by (refused k p) h = absurd (unnamed_never_13 t b w d e k p h)
    by (good ks) h = (ks, h)

-- ---- step
module _ (d : Board) where
  none-spent : (e : ℕ) → spent d 0 e ≡ false
  unfolding spent
  none-spent e = rw no_makers

  none-close : (m : Marking) → close d 0 m ≡ m
  unfolding close
  none-close m = rw no_ends

  -- nothing is spent and nothing gained
  none-moved : gain d 0 (spend d 0 d.current) ≡ d.current
  unfolding gain spend
  none-moved = same_fields _ d.current refl by
    where
      nothing : (c : Bool) (vs : List ℕ) → vs ++ cond c [] [] ≡ vs
      nothing true vs = append-nil vs
      nothing false vs = append-nil vs

      still : (r a : Bool) → r || (a && false) ≡ r
      still true a = refl
      still false a = and_never a

      by : (f : Field) → content (gain d 0 (spend d 0 d.current)) f ≡ content d.current f
      by (stockOf n) =
          let a : any (spent d 0) (out d.table n) ≡ false = none_any (spent d 0) (out d.table n) (λ e m. none-spent e) in
          rw (a, no_arrivals d n) (nothing (is_object_node (kind d.table n)) (d.current.stock n))
      by (runsOf n) = rw (no_ends d) (still (d.current.runs n) (is_action (kind d.table n)))
      by (tokensOf e) = rw (none-spent e)

  pub next-same : next d 0 ≡ d.current
  unfolding next
  next-same = none-close (gain d 0 (spend d 0 d.current)) ∙ none-moved

-- a step that takes nothing: the reply is the encoding of the next marking, and that is the marking as it was
pub step_takes_nothing : (t b : List ℕ) (w : Terms) (d : Board) → board t b w ≡ good d → (step t b w [] ≡ good (encode t (next d 0))) × (next d 0 ≡ d.current)
unfolding step step_of
step_takes_nothing t b w d e = (rw (e, empty_judged d (board-room (board-good t b w d e))), next-same d)

-- and so the bytes given come back
pub step_same : (t b : List ℕ) (w : Terms) (d : Board) → Bytes b → board t b w ≡ good d → step t b w [] ≡ good b
step_same t b w d u e =
    let s = step_takes_nothing t b w d e in
    s.0 ∙ ap (λ (m : Marking). good (encode t m)) s.1 ∙ ap good (read-is-good t b d.current u (board-good t b w d e).is_read).1
