-- "It reads the first .. bytes at most; no good input is longer.": an input that makes a board has no more, so all of it is read, and bytes behind them
-- change nothing. What may be printed for an input is one text. Assumes nothing.
use mathlib.Core.Path.{◌≡◌, sym, ap, subst, ◌∙◌}
use Prim.Native.Nat.{ℕ, ◌+◌, ◌≤◌}
use native.Mathlib.Omega.{arith}
use mathlib.Core.Bool.{true}
use mathlib.Core.List.{List, ◌++◌}
use lib.Dec.{eqb}
use lib.ListN.{length, length-append, length-take, take-append-drop}
use lib.Seq.{take_all, take-append-le}
use borrow.Author.Tests.{eqb-true}
use Rattle.paper.specs.Limits.{limits}
use Rattle.paper.specs.Answers.{good}
use Rattle.paper.specs.Table.{edges}
use Rattle.paper.specs.Offers.{guards_fine}
use Rattle.paper.specs.Choices.{Board, board}
use Rattle.paper.specs.Program.{most_input, read_of, part_length, part, behind, table_part, marking_part, guards_part, terms_part, text, Prints, PrintsFor}
use Rattle.paper.proofs.Bools.{and-true}
use Rattle.paper.proofs.Bounds.{under_left, under_drop}
use Rattle.paper.proofs.Bytes.{Bytes}
use Rattle.paper.proofs.Tables.{table-good}
use Rattle.paper.proofs.OneMarking.{encode-fits, read-is-good}
use Rattle.paper.proofs.Boards.{board-good}
use Rattle.paper.proofs.Picks.{pick_unique}

module _ (s : List ℕ) where
  part_is : length s ≡ length (part s) + length (behind s)
  part_is = ap length (sym (take-append-drop (part_length s) s)) ∙ length-append (part s) (behind s)

  part_bytes : Bytes s → Bytes (part s)
  part_bytes u = under_left 256 (part s) (behind s) (omega arith) (subst Bytes (sym (take-append-drop (part_length s) s)) u)

guards-length : (t g : List ℕ) → guards_fine t g ≡ true → length g ≡ edges t
unfolding guards_fine
guards-length t g h = eqb-true _ _ (and-true (eqb (length g) (edges t)) _ h).0

-- a table, a marking and guards at their longest
pub input-fits : (s : List ℕ) (d : Board) → Bytes s → board (table_part s) (marking_part s) (terms_part s) ≡ good d → length s ≤ most_input
input-fits s d u h =
    let f = board-good (table_part s) (marking_part s) (terms_part s) d h in
    let r = (table-good (table_part s) limits f.table-fine).frame in
    let q = read-is-good (table_part s) (marking_part s) d.current (part_bytes (behind s) (under_drop 256 s (part_length s) u)) f.is_read in
    let m : length (marking_part s) ≤ limits.longest_marking = subst (λ (b : List ℕ). length b ≤ limits.longest_marking) q.1 (encode-fits (table_part s) d.current f.table-fine q.0) in
    omega (arith, part_is s, part_is (behind s), guards-length (table_part s) (guards_part s) f.facts.guards-fine)

-- a good input is read whole
pub read_whole : (input : List ℕ) (d : Board) → Bytes input → board (table_part input) (marking_part input) (terms_part input) ≡ good d → read_of input ≡ input
read_whole input d u h = take_all most_input input (input-fits input d u h)

-- ---- what is printed for an input is what is printed for what is read of it
pub read_again : (input : List ℕ) → read_of (read_of input) ≡ read_of input
read_again input = take_all most_input (read_of input) (omega (arith, length-take most_input input))

pub prints_for_read : (input written : List ℕ) → PrintsFor input written → PrintsFor (read_of input) written
prints_for_read input written p = subst (λ (s : List ℕ). Prints s written) (sym (read_again input)) p

pub prints_for_more : (input more written : List ℕ) → most_input ≤ length input → PrintsFor input written → PrintsFor (input ++ more) written
prints_for_more input more written l p = subst (λ (s : List ℕ). Prints s written) (sym (take-append-le most_input input more l)) p

-- ---- two texts that may be printed for a stream, or for an input, are one
pub prints_unique : (s a b : List ℕ) → Prints s a → Prints s b → a ≡ b
prints_unique s a b p q =
    p.is-text
    ∙ ap (text (board (table_part s) (marking_part s) (terms_part s))) (pick_unique (table_part s) (marking_part s) (terms_part s) 255 p.picked q.picked p.allowed q.allowed)
    ∙ sym q.is-text

pub prints_for_unique : (input a b : List ℕ) → PrintsFor input a → PrintsFor input b → a ≡ b
prints_for_unique input a b p q = prints_unique (read_of input) a b p q
