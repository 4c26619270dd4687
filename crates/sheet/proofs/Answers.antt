-- What sheet and pick answer for a stream, read from their words and bytes, and the text that is made of it. Assumes nothing.
use mathlib.Core.Path.{◌≡◌, refl, sym, ap, subst, ◌∙◌}
use Prim.Native.Nat.{ℕ, ◌≤◌, ◌<◌}
use native.Mathlib.Omega.{arith}
use mathlib.Core.Bool.{false}
use mathlib.Core.List.{List, ◌++◌}
use lib.ListN.{length, take, drop, length-append}
use lib.Seq.{take-append_seam, take_at}
use borrow.Author.Tests.{le-leb}
use Rattle.paper.specs.Lists.{has, below}
use Rattle.paper.specs.Answers.{Answer, refused, good}
use Rattle.paper.specs.Offers.{Terms, terms, no_bounds}
use Rattle.paper.specs.Choices.{Board, board, how_many, taken}
use Rattle.paper.specs.Operations.{sheet, sheet_bytes, Pick, PickOn, packed, in_room, Reply, Leaves, Only}
use Rattle.paper.specs.Program.{read_of, table_part, marking_part, guards_part, refusal_text, board_text, Prints, PrintsFor}
use Rattle.paper.proofs.Bools.{never}
use Rattle.paper.proofs.Bytes.{Bytes}
use Rattle.paper.proofs.Lengths.{length-keep, length_from}
use Rattle.paper.proofs.Sizes.{few-ends}
use Rattle.sheet_numbers.specs.Written.{Printed}
use Rattle.sheet_text.specs.Sheets.{Sheet}
use Rattle.sheet_text.proofs.Meaning.{sheet-fits}
use Rattle.sheet.specs.Shown.{Shown, PrintsParts}
use Rattle.sheet.proofs.Refusals.{board_plain}

-- ---- the numbers that were read from a word
abbrev pub IsRefusal : ℕ → ℕ → Type 0
IsRefusal word r = (n p len : ℕ) → p < 65536 → len < 4294967296 → word ≡ packed n p len → r ≡ n

abbrev pub IsPlace : ℕ → ℕ → Type 0
IsPlace word r = (n p len : ℕ) → p < 65536 → len < 4294967296 → word ≡ packed n p len → r ≡ p

abbrev pub IsLength : ℕ → ℕ → Type 0
IsLength word r = (n p len : ℕ) → len < 4294967296 → word ≡ packed n p len → r ≡ len

-- the bytes of a reply are at its front
front-is : (b old new : List ℕ) (r : ℕ) → new ≡ b ++ drop (length b) old → r ≡ length b → take r new ≡ b
front-is b old new r e l = rw (e, l) (take-append_seam b (drop (length b) old))

module _ (t m : List ℕ) (under : Terms) where
  data Told (word : ℕ) (new : List ℕ) : Type 0 where
    refuses : (n p : ℕ) → board t m under ≡ refused n p → word ≡ packed n p 0 → Told word new
    shows : (b : List ℕ) → Shown t m under b → word ≡ packed 0 0 (length b) → ((r : ℕ) → r ≡ length b → take r new ≡ b) → Told word new

module _ {t m : List ℕ} {under : Terms} {bytes : List ℕ} (x : Shown t m under bytes) where
  abbrev pub sheet-of : Sheet t bytes
  sheet-of = record { of = x.on; marking = m; under = under; marking-bytes = x.marking-bytes; is-board = x.is-board; is-sheet = x.is-sheet }

module _ (t m : List ℕ) (under : Terms) {old new : List ℕ} {word : ℕ} (u : Bytes m) (room : length old ≡ 4096) (l : Leaves (Only (sheet t m under)) word old new) where
  told : Told t m under word new
  unfolding sheet
  told = by (board t m under) refl
    where
      by : (a : Answer Board) → board t m under ≡ a → Told t m under word new
      by (refused n p) e =
          let a : l.answer ≡ refused n p = l.allowed ∙ rw e in
          let r : Reply (in_room (length old) (refused n p)) word old new = rw a at l.reply in
          refuses n p e r.0
      by (good d) e =
          let b = sheet_bytes d.all_ends in
          let f = sheet-fits (record { of = d; marking = m; under = under; marking-bytes = u; is-board = e; is-sheet = refl }) in
          let a : l.answer ≡ good b = l.allowed ∙ rw e in
          let h : Reply (in_room (length old) (good b)) word old new = rw a at l.reply in
          let r : Reply (good b) word old new = rw (le-leb (length b) (length old) (omega arith)) at h in
          shows b (record { on = d; is-board = e; is-sheet = refl; marking-bytes = u; short = f }) r.0 (λ n q. front-is b old new n r.1 q)

  pub refusal_told : (n p : ℕ) → IsRefusal word n → IsPlace word p → (n ≡ 0 → ⊥) → board t m under ≡ refused n p
  refusal_told n p isN isP z = by told
    where
      by : Told t m under word new → board t m under ≡ refused n p
      by (refuses k q e w) =
          let f = board_plain t m under k q e in
          rw (isN k q 0 f.1 (omega arith) w, isP k q 0 f.1 (omega arith) w) e
      by (shows b x w r) = absurd (z (isN 0 0 (length b) (omega arith) (omega (arith, x.short)) w))

  pub sheet-told : (n len : ℕ) → IsRefusal word n → IsLength word len → n ≡ 0 → Shown t m under (take len new) × (len ≤ 4096)
  sheet-told n len isN isL z = by told
    where
      by : Told t m under word new → Shown t m under (take len new) × (len ≤ 4096)
      by (refuses k q e w) =
          let f = board_plain t m under k q e in
          absurd (omega (arith, isN k q 0 f.1 (omega arith) w, f.0))
      by (shows b x w r) =
          let q = isL 0 0 (length b) (omega (arith, x.short)) w in
          (rw (r len q) x, omega (arith, x.short))

-- ---- pick, with no node named
module _ {t m : List ℕ} {under : Terms} {bytes : List ℕ} (x : Shown t m under bytes) {old new : List ℕ} {word : ℕ} (room : length old ≡ 20) (l : Leaves (Pick t m under 255) word old new) where
  abbrev d : Board
  d = x.on

  pub pick_told : (len : ℕ) → IsLength word len → Pick t m under 255 (good (take len new)) × (len ≤ 20)
  unfolding Pick taken
  pick_told len isL = by l.answer l.allowed l.reply
    where
      by : (a : Answer (List ℕ)) → Pick t m under 255 a → Reply (in_room (length old) a) word old new → Pick t m under 255 (good (take len new)) × (len ≤ 20)
      by (refused k p) a r = let c : PickOn d 255 (refused k p) = rw x.is-board at a in never false c.2.is-named refl
      by (good ks) a r =
          let c : PickOn d 255 (good ks) = rw x.is-board at a in
          let few = few-ends t m under d x.is-board in
          let n : length ks ≤ 20 = rw c.2 (omega (arith, length-keep (has c.0) (below (how_many d)), length_from 0 (how_many d))) in
          let h : Reply (good ks) word old new = rw (le-leb (length ks) (length old) (omega arith)) at r in
          let q = isL 0 0 (length ks) (omega arith) h.0 in
          (rw (front-is ks old new len h.1 q) a, omega arith)

-- ---- the text
module _ {x old new : List ℕ} {r : ℕ} (w : Printed x old new r) where
  written_is : take r new ≡ x
  written_is = rw w.front (take_at x (drop r old) r (sym w.long))

  -- what is printed is no longer than what was lent
  pub printed-inside : r ≤ length new
  printed-inside = omega (arith, w.long, ap length w.front, length-append x (drop r old))

module _ (t m : List ℕ) (under : Terms) {old new : List ℕ} {r : ℕ} where
  pub prints_refusal : (n p : ℕ) → board t m under ≡ refused n p → Printed (refusal_text n p) old new r → PrintsParts t m under (take r new)
  unfolding Pick
  prints_refusal n p e w = record { picked = refused n p; allowed = rw e refl; is-text = rw e (written_is w) }

  pub prints_board : {d : Board} (ks : List ℕ) → board t m under ≡ good d → Pick t m under 255 (good ks) → Printed (board_text d ks) old new r → PrintsParts t m under (take r new)
  prints_board ks e h w = record { picked = good ks; allowed = h; is-text = rw e (written_is w) }

-- for a stream, by its parts
pub prints : {t m g : List ℕ} (s written : List ℕ) → t ≡ table_part s → m ≡ marking_part s → g ≡ guards_part s → PrintsParts t m (terms g no_bounds) written → Prints s written
prints s written a b c p = record { picked = p.picked; allowed = rw (a, b, c) at p.allowed; is-text = rw (a, b, c) at p.is-text }

-- for an input of which the stream was read
pub prints_for : {s written : List ℕ} (input : List ℕ) → s ≡ read_of input → Prints s written → PrintsFor input written
prints_for {written = written} input e p = subst (λ (s : List ℕ). Prints s written) e p
