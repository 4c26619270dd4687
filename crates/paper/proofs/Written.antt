-- What start, step and finish write reads back to what was meant, so that refusal 5 never follows from it. Assumes nothing.
use mathlib.Core.Path.{◌≡◌, subst}
use Prim.Native.Nat.{ℕ}
use mathlib.Core.Bool.{false, not}
use borrow.Author.Tests.{not-true}
use mathlib.Core.List.{List}
use mathlib.Core.Option.{some}
use Rattle.paper.specs.Answers.{good}
use Rattle.paper.specs.Limits.{limits}
use Rattle.paper.specs.Table.{table_fine}
use Rattle.paper.specs.Marking.{Marking, encode, marking, Good}
use Rattle.paper.specs.Offers.{Terms}
use Rattle.paper.specs.Choices.{Board, board}
use Rattle.paper.specs.Operations.{start_of, start, step_of, step, finish_of, finish}
use Rattle.paper.proofs.Ladders.{same_good, row-good, known-good, need-good}
use Rattle.paper.proofs.Bytes.{Bytes}
use Rattle.paper.proofs.OneMarking.{encode-bytes, reads_back, read-is-good}
use Rattle.paper.proofs.Given.{start-good, finish-good}
use Rattle.paper.proofs.Stepped.{step-good}

-- the bytes are those of a good, live marking of the table, and read as it
pub record Meant (t out : List ℕ) (m : Marking) : Type 0 where
  pub is-good : Good t m
  pub live : m.ended ≡ false
  pub written : encode t m ≡ out
  pub read : marking t out ≡ some m

meant : (t out : List ℕ) (m : Marking) → table_fine t limits ≡ good tt → Good t m × (m.ended ≡ false) → encode t m ≡ out → Meant t out m
meant t out m fine g e = record { is-good = g.0; live = g.1; written = e; read = subst (λ b. marking t b ≡ some m) e (reads_back t m fine g.0) }

pub start_meant : (t b out : List ℕ) → Bytes b → start t b ≡ good out → (m : Marking) × (start_of t b ≡ good m) × Meant t out m
unfolding start
start_meant t b out u h =
    let r = row-good (table_fine t limits) _ out h in
    let s = row-good (start_of t b) _ out r.2 in
    (s.0, s.1, meant t out s.0 r.1 (start-good t b s.0 u s.1) (same_good s.2))

-- finish is for a live marking: row 6
was_live : (t : List ℕ) (m : Marking) (a : ℕ) (vs : List ℕ) (m' : Marking) → finish_of t m a vs ≡ good m' → m.ended ≡ false
unfolding finish_of
was_live t m a vs m' h = not-true m.ended (need-good 6 (not m.ended) _ m' h).0

pub finish_meant : (t b : List ℕ) (a : ℕ) (vs out : List ℕ) → Bytes b → Bytes vs → finish t b a vs ≡ good out
    → (m : Marking) × (m' : Marking) × (marking t b ≡ some m) × (finish_of t m a vs ≡ good m') × Meant t out m'
unfolding finish
finish_meant t b a vs out u v h =
    let r = row-good (table_fine t limits) _ out h in
    let k = known-good 5 (marking t b) _ out r.2 in
    let m = k.0 in
    let s = row-good (finish_of t m a vs) _ out k.2 in
    let g = (read-is-good t b m u k.1).0 in
    (m, s.0, k.1, s.1, meant t out s.0 r.1 (finish-good t a m g (was_live t m a vs s.0 s.1) vs s.0 v s.1) (same_good s.2))

-- ---- step, after which the marking may have ended
-- the bytes are those of a good marking of the table, live or ended, and read as it
pub record Kept (t out : List ℕ) (m : Marking) : Type 0 where
  pub is-good : Good t m
  pub bytes : Bytes out
  pub written : encode t m ≡ out
  pub read : marking t out ≡ some m

kept : (t out : List ℕ) (m : Marking) → table_fine t limits ≡ good tt → Good t m → encode t m ≡ out → Kept t out m
kept t out m fine g e = record {
  is-good = g;
  bytes = subst Bytes e (encode-bytes t m fine g);
  written = e;
  read = subst (λ b. marking t b ≡ some m) e (reads_back t m fine g);
}

pub step_meant : (t b : List ℕ) (w : Terms) (ks out : List ℕ) → Bytes b → step t b w ks ≡ good out
    → (d : Board) × (m : Marking) × (board t b w ≡ good d) × (step_of d ks ≡ good m) × Kept t out m
unfolding step board
step_meant t b w ks out u h =
    let k = row-good (board t b w) _ out h in
    let d = k.0 in
    let s = row-good (step_of d ks) _ out k.2 in
    let r = row-good (table_fine t limits) _ d k.1 in
    let q = known-good 5 (marking t b) _ d r.2 in
    let m = q.0 in
    (d, s.0, k.1, s.1, kept t out s.0 r.1 (step-good t w m r.1 (read-is-good t b m u q.1).0 d q.2 ks s.0 s.1) (same_good s.2))

-- ---- a day of calls
-- the bytes that a day on the table t comes to, call after call, each on what the one before wrote
pub data Day (t : List ℕ) : List ℕ → Type 0 where
  begun : {out : List ℕ} (vs : List ℕ) → Bytes vs → start t vs ≡ good out → Day t out
  stepped : {b out : List ℕ} (w : Terms) (ks : List ℕ) → Day t b → step t b w ks ≡ good out → Day t out
  finished : {b out : List ℕ} (a : ℕ) (vs : List ℕ) → Bytes vs → Day t b → finish t b a vs ≡ good out → Day t out

-- whatever is called in it, a day's marking is good, and it reads back: refusal 5 is never met
pub no_bad_day : {t b : List ℕ} → Day t b → (m : Marking) × Kept t b m
unfolding start finish
no_bad_day {t} {b} (begun vs u h) =
    let r = start_meant t vs b u h in
    (r.0, kept t b r.0 (row-good (table_fine t limits) _ b h).1 r.2.is-good r.2.written)
no_bad_day {t} {b = out} (stepped {b = b} w ks y h) =
    let r = step_meant t b w ks out (no_bad_day y).1.bytes h in
    (r.1, r.4)
no_bad_day {t} {b = out} (finished {b = b} a vs v y h) =
    let r = finish_meant t b a vs out (no_bad_day y).1.bytes v h in
    (r.1, kept t out r.1 (row-good (table_fine t limits) _ out h).1 r.4.is-good r.4.written)
