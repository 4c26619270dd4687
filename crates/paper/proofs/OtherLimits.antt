-- Wish 6: engines of other limits. "Tables keep version 1; each old table and marking reads as before. An older engine refuses a larger table with 1." A table whose counts
-- smaller limits allow gets the same rows 1 to 4 under larger ones, and every operation the same answer; one that they don't allow gets 1 at place 0 from
-- every operation of an engine with the smaller ones. How long a marking is under any limits: `OneMarking.encode-within`. Assumes nothing.
use mathlib.Core.Path.{◌≡◌, refl, sym, ◌∙◌}
use Prim.Native.Nat.{ℕ, ◌≤◌, ◌<◌}
use native.Mathlib.Omega.{arith}
use mathlib.Core.Logic.{◌⊎◌, ⊎_elim}
use mathlib.Core.Bool.{false}
use mathlib.Core.List.{List, []}
use borrow.Author.Tests.{le-leb}
use Rattle.paper.specs.Limits.{Limits, limits_for, limits}
use Rattle.paper.specs.Answers.{Answer, refused, good, ◌>>=◌, known}
use Rattle.paper.specs.Table.{nodes, edges, frame_fine, node_fine, chain_fine, shape_fine, table_fine}
use Rattle.paper.specs.Marking.{encode, marking}
use Rattle.paper.specs.Offers.{Terms}
use Rattle.paper.specs.Choices.{Board, board_of, board}
use Rattle.paper.specs.Operations.{check, start_of, start, sheet_bytes, sheet, PickIf, Pick, WhyIf, Why, step_of, step, finish_of, finish, Only}
use Rattle.paper.proofs.Bools.{true_or_false}
use Rattle.paper.proofs.Tables.{frame_facts, table-good}
use Rattle.paper.proofs.Calls.{Call, checks, starts, sheets, picks, whys, steps, finishes, AllowedBy}

-- ---- the operations of an engine whose limits are l: rows 1 to 4 under these, and all else as it is
module _ (l : Limits) where
  board_under : List ℕ → List ℕ → Terms → Answer Board
  board_under t b w = do
    _ ← table_fine t l
    m ← known 5 (marking t b)
    board_of t m w

  check_under : List ℕ → Answer (List ℕ)
  check_under t = do
    _ ← table_fine t l
    good []

  start_under : List ℕ → List ℕ → Answer (List ℕ)
  start_under t b = do
    _ ← table_fine t l
    m ← start_of t b
    good (encode t m)

  sheet_under : List ℕ → List ℕ → Terms → Answer (List ℕ)
  sheet_under t b w = do
    d ← board_under t b w
    good (sheet_bytes d.all_ends)

  step_under : List ℕ → List ℕ → Terms → List ℕ → Answer (List ℕ)
  step_under t b w ks = do
    d ← board_under t b w
    m ← step_of d ks
    good (encode t m)

  finish_under : List ℕ → List ℕ → ℕ → List ℕ → Answer (List ℕ)
  finish_under t b a vs = do
    _ ← table_fine t l
    m ← known 5 (marking t b)
    m' ← finish_of t m a vs
    good (encode t m')

  -- what such an engine may answer to a call
  pub AllowedUnder : Call → Answer (List ℕ) → Type 0
  AllowedUnder (checks t) = Only (check_under t)
  AllowedUnder (starts t b) = Only (start_under t b)
  AllowedUnder (sheets t b w) = Only (sheet_under t b w)
  AllowedUnder (picks t b w n) = PickIf (board_under t b w) n
  AllowedUnder (whys t b w n) = WhyIf (board_under t b w) n
  AllowedUnder (steps t b w ks) = Only (step_under t b w ks)
  AllowedUnder (finishes t b a vs) = Only (finish_under t b a vs)

-- with today's limits it is this engine
pub under_ours : (c : Call) → AllowedUnder limits c ≡ AllowedBy c
unfolding AllowedUnder board_under check_under start_under sheet_under step_under finish_under board check start sheet Pick Why step finish
under_ours (checks t) = refl
under_ours (starts t b) = refl
under_ours (sheets t b w) = refl
under_ours (picks t b w n) = refl
under_ours (whys t b w n) = refl
under_ours (steps t b w ks) = refl
under_ours (finishes t b a vs) = refl

-- the table that a call is lent
abbrev pub table_of : Call → List ℕ
table_of (checks t) = t
table_of (starts t b) = t
table_of (sheets t b w) = t
table_of (picks t b w n) = t
table_of (whys t b w n) = t
table_of (steps t b w ks) = t
table_of (finishes t b a vs) = t

-- engines that say the same of a table say the same of every call with it
pub same-rows-same_answers : (l k : Limits) (c : Call) → table_fine (table_of c) l ≡ table_fine (table_of c) k → AllowedUnder l c ≡ AllowedUnder k c
unfolding AllowedUnder board_under check_under start_under sheet_under step_under finish_under
same-rows-same_answers l k (checks t) e = rw e refl
same-rows-same_answers l k (starts t b) e = rw e refl
same-rows-same_answers l k (sheets t b w) e = rw e refl
same-rows-same_answers l k (picks t b w n) e = rw e refl
same-rows-same_answers l k (whys t b w n) e = rw e refl
same-rows-same_answers l k (steps t b w ks) e = rw e refl
same-rows-same_answers l k (finishes t b a vs) e = rw e refl

-- ---- smaller limits and larger ones
module _ (t : List ℕ) where
  -- the smaller ones allow the table's counts: rows 1 to 4 are the same, whatever they say
  module _ (n e b n' e' b' : ℕ) (more-nodes : n ≤ n') (more_edges : e ≤ e') where
    same_frame : nodes t ≤ n → edges t ≤ e → frame_fine t (limits_for n e b) ≡ frame_fine t (limits_for n' e' b')
    unfolding frame_fine
    same_frame hn he =
        rw (le-leb (nodes t) n hn, le-leb (edges t) e he, le-leb (nodes t) n' (omega arith), le-leb (edges t) e' (omega arith)) refl

    pub same_rows : nodes t ≤ n → edges t ≤ e → table_fine t (limits_for n e b) ≡ table_fine t (limits_for n' e' b')
    unfolding table_fine node_fine shape_fine chain_fine
    same_rows hn he = rw (same_frame hn he) refl

    -- a table that is good under the smaller ones is good under the larger ones
    pub good_stays : table_fine t (limits_for n e b) ≡ good tt → table_fine t (limits_for n' e' b') ≡ good tt
    good_stays h =
        let r = (table-good t (limits_for n e b) h).frame in
        sym (same_rows r.nodes_fit r.edges_fit) ∙ h

  -- the limits don't allow them
  too_large : (l : Limits) → (l.most_nodes < nodes t) ⊎ (l.most_edges < edges t) → frame_fine t l ≡ false
  too_large l h = ⊎_elim (λ y. let f = frame_facts t l y in ⊎_elim (λ k. absurd (omega (arith, f.nodes_fit))) (λ k. absurd (omega (arith, f.edges_fit))) h) (λ n. n) (true_or_false (frame_fine t l))

  pub refused_larger : (l : Limits) → (l.most_nodes < nodes t) ⊎ (l.most_edges < edges t) → table_fine t l ≡ refused 1 0
  unfolding table_fine
  refused_larger l h = rw (too_large l h) refl

-- ---- every operation
-- "each old table and marking reads as before": a table that is good under smaller limits gets the same answer from every operation
pub as_before : (n e b n' e' b' : ℕ) → n ≤ n' → e ≤ e' → (c : Call) → table_fine (table_of c) (limits_for n e b) ≡ good tt
    → AllowedUnder (limits_for n e b) c ≡ AllowedUnder (limits_for n' e' b') c
as_before n e b n' e' b' hn he c h =
    same-rows-same_answers (limits_for n e b) (limits_for n' e' b') c (h ∙ sym (good_stays (table_of c) n e b n' e' b' hn he h))

-- "An older engine refuses a larger table with 1": every operation does, at place 0
pub larger_refused : (l : Limits) (c : Call) → (l.most_nodes < nodes (table_of c)) ⊎ (l.most_edges < edges (table_of c)) → (a : Answer (List ℕ)) → AllowedUnder l c a → a ≡ refused 1 0
unfolding AllowedUnder board_under check_under start_under sheet_under step_under finish_under
larger_refused l (checks t) k a h = rw (refused_larger t l k) at h
larger_refused l (starts t b) k a h = rw (refused_larger t l k) at h
larger_refused l (sheets t b w) k a h = rw (refused_larger t l k) at h
larger_refused l (picks t b w n) k a h = rw (refused_larger t l k) at h
larger_refused l (whys t b w n) k a h = rw (refused_larger t l k) at h
larger_refused l (steps t b w ks) k a h = rw (refused_larger t l k) at h
larger_refused l (finishes t b x vs) k a h = rw (refused_larger t l k) at h
