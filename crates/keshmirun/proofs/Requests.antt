-- What each request leaves of a board that was read: its refusals, and what each function answers. Assumes nothing.
use mathlib.Core.Path.{◌≡◌, refl, sym, ap, subst, ◌∙◌}
use mathlib.Core.Bool.{Bool, true}
use mathlib.Core.List.{List}
use Prim.Native.Nat.{ℕ, ◌+◌, ◌^◌, ◌≤◌, ◌<◌}
use native.Mathlib.Nat.{lt_of_lt_of_le}
use native.Mathlib.Omega.{arith}
use lib.ListN.{length}
use lib.Pow.{pow_mono}
use Rattle.paper.specs.Answers.{refused, good}
use Rattle.paper.specs.Limits.{limits}
use Rattle.paper.specs.Offers.{Terms}
use Rattle.paper.specs.Choices.{board}
use Rattle.paper.specs.Operations.{sheet, step, PickOn, Pick, WhyIf, Why, packed, in_room, Reply, Leaves}
use Rattle.std.specs.Prelude.{Err}
use Rattle.wire.specs.declared.Refusal.{Refusal}
use Rattle.wire.specs.Refusals.{number, place, word_of}
use Rattle.table.specs.Reading.{table_read}
use Rattle.offers.specs.declared.Offers.{Offers}
use Rattle.offers.specs.Rows.{row_cells}
use Rattle.marking_held.specs.MarkingHeld.{Held}
use Rattle.ends.specs.Ends.{EndsListed}
use Rattle.board.specs.Reading.{EndsLent, EndsRoom, Laid}
use Rattle.board.proofs.BoardLaws.{board-refused}
use Rattle.sheet_write.specs.Listing.{Shows, sheet_shown}
use Rattle.sheet_write.proofs.Meaning.{sheet-shown, listed-shows}
use Rattle.ends_masks.specs.declared.Ends.{Ends}
use Rattle.step.specs.Stepping.{chosen, Standing}
use Rattle.keshmirun.specs.declared.asking.Request.{Request}
use Rattle.keshmirun.specs.declared.asking.Request.TheVariants.{Sheet, Choice}
use Rattle.keshmirun.specs.declared.asking.Query.TheVariants.{Pick as PickFor, Why as WhyFor, Step, Count}
use Rattle.keshmirun.specs.Asking.{Counted, shows, Responds}

module _ (t b : List ℕ) (w : Terms) (ks : List ℕ) where
  -- ---- rows 1 to 8, and 18
  pub asked_refused : (q : Request) (n p word : ℕ) (out : List ℕ) → board t b w ≡ refused n p → word ≡ packed n p 0 → Responds q t b w ks word out out
  unfolding sheet Pick Why step Counted
  asked_refused Sheet n p word out e h = record { answer = refused n p; allowed = sym (rw e); reply = (h, refl) }
  asked_refused (Choice (PickFor i)) n p word out e h = record { answer = refused n p; allowed = rw e refl; reply = (h, refl) }
  asked_refused (Choice (WhyFor i)) n p word out e h = record { answer = refused n p; allowed = rw e refl; reply = (h, refl) }
  asked_refused (Choice Step) n p word out e h = record { answer = refused n p; allowed = sym (rw e); reply = (h, refl) }
  asked_refused (Choice (Count i k)) n p word out e h = (rw e h, refl)

  pub table-refused : (q : Request) (n p word : ℕ) (out : List ℕ) → table_read t ≡ refused n p → word ≡ packed n p 0 → Responds q t b w ks word out out
  table-refused q n p word out e h = asked_refused q n p word out (board-refused t b w n p e) h

  -- by the refusal's name
  pub asked_err : (q : Request) (v : Refusal) (out : List ℕ) → board t b w ≡ refused (number v) (place v) → Responds q t b w ks (word_of (Err v)) out out
  asked_err q v out e = asked_refused q (number v) (place v) _ out e refl

  pub table_err : (q : Request) (v : Refusal) (out : List ℕ) → table_read t ≡ refused (number v) (place v) → Responds q t b w ks (word_of (Err v)) out out
  table_err q v out e = table-refused q (number v) (place v) _ out e refl

  -- ---- on a board
  module _ {o : Offers} {e : Ends} {x : Held} (y : Standing t b o e x) (is-board : board t b w ≡ good y.on) (q : Request) (word : ℕ) (out after : List ℕ) where
    pub pick_leaves : (i : ℕ) → q ≡ Choice (PickFor i) → Leaves (PickOn y.on i) word out after → Responds q t b w ks word out after
    unfolding Pick
    pick_leaves i f h = rw f (record { answer = h.answer; allowed = rw is-board h.allowed; reply = h.reply })

    pub why_leaves : (i : ℕ) → q ≡ Choice (WhyFor i) → Leaves (WhyIf (good y.on) i) word out after → Responds q t b w ks word out after
    unfolding Why
    why_leaves i f h = rw f (record { answer = h.answer; allowed = rw is-board h.allowed; reply = h.reply })

    pub step-leaves : q ≡ Choice Step → Reply (in_room (length out) (chosen t y.on ks)) word out after → Responds q t b w ks word out after
    unfolding step chosen
    step-leaves f h = rw f (record { answer = chosen t y.on ks; allowed = sym (rw is-board); reply = h })

    pub count-leaves : (i k : ℕ) → q ≡ Choice (Count i k) → (1 ≤ word) × (word < 2 ^ (e.count + 22)) → Responds q t b w ks word out out
    unfolding Counted
    count-leaves i k f h = rw f (rw (is-board, ← y.stands.seated.number) h, refl)

-- ---- a number of states is no refusal's word
pub counts_apart : (m x : ℕ) → m ≤ limits.most_ends → x < 2 ^ (m + 22) → x < 2 ^ 48
counts_apart m x f l = let k : m + 22 ≤ 48 = omega arith in lt_of_lt_of_le l (pow_mono k)

-- ---- a sheet: its paths were put together
module _ {show : Bool} {t b : List ℕ} {w : Terms} {x : Held} {m : List ℕ} {c : ℕ} {s : EndsLent} {n : ℕ} (l : Laid show t b w x m c s n) (r : EndsRoom s)
    (q : Request) (shown : show ≡ shows q) (e : q ≡ Sheet) where
  listed_then : EndsListed l.trees l.on.all_ends true s.ends s.order s.lens s.cells n
  listed_then = subst (λ (v : Bool). EndsListed l.trees l.on.all_ends v s.ends s.order s.lens s.cells n) (shown ∙ ap shows e) l.listed

  pub sheet-leaves : (ks : List ℕ) (word : ℕ) (out after : List ℕ)
      → Reply (in_room (length out) (good (sheet_shown m s.ends s.order s.lens s.cells n))) word out after → Responds q t b w ks word out after
  unfolding sheet
  sheet-leaves ks word out after h = rw e (record {
    answer = good (sheet_shown m s.ends s.order s.lens s.cells n);
    allowed =
        sym (rw (l.is-board, sheet-shown t m c l.trees l.on.all_ends s.ends s.order s.lens s.cells n r.cells-room l.holds_ts listed_then));
    reply = h;
  })

  pub laid_shows : row_cells ≤ length m → Shows m s.ends s.order s.lens s.cells n
  laid_shows f =
      listed-shows t m c l.trees l.on.all_ends s.ends s.order s.lens s.cells n r.cells-room l.holds_ts listed_then
      (omega (arith, l.listed.few, r.ends-room)) f r.order-room r.lens-room
