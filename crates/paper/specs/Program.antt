-- The program `sheet` ("The small event"): what it reads, how that is cut, and every byte it writes. Assumes nothing.
use Rattle.std.specs.Prelude.{ℕ, zero, suc, ◌+◌, ◌*◌, ◌/◌, ◌%◌, ◌≡◌, cond, List, [], ◌∷◌, ◌++◌, ltb, length, take, drop}
use Rattle.std.proofs.Math.Option.{Option, none, some}
use Rattle.paper.specs.Lists.{at, below, each, gather}
use Rattle.paper.specs.Answers.{Answer, refused, good}
use Rattle.paper.specs.Offers.{Terms, terms, no_bounds, last_edge, value, sorted_paths, target_of}
use Rattle.paper.specs.Choices.{Board, board, how_many, end}
use Rattle.paper.specs.Operations.{Pick}

-- ---- "It reads the first .. bytes at most; no good input is longer."; wish 6: "the program reads up to 16,384"
abbrev pub most_input : ℕ
most_input = 16384

-- what is read of an input: the stream that is cut
abbrev pub read_of : List ℕ → List ℕ
read_of input = take most_input input

-- ---- "Table and marking are the parts their length fields give .. a short stream hands on what there is; the guards are the rest."
-- the length of the part in front
abbrev pub part_length : List ℕ → ℕ
part_length s = cond (ltb (length s) 2) (length s) (2 + at s 0 * 256 + at s 1)

abbrev pub part : List ℕ → List ℕ
part s = take (part_length s) s

abbrev pub behind : List ℕ → List ℕ
behind s = drop (part_length s) s

abbrev pub table_part : List ℕ → List ℕ
table_part s = part s

abbrev pub marking_part : List ℕ → List ℕ
marking_part s = part (behind s)

abbrev pub guards_part : List ℕ → List ℕ
guards_part s = behind (behind s)

-- ---- "in decimal": ten digits are enough for a value
unfoldable pub digits : ℕ → ℕ → List ℕ
digits zero v = []
digits (suc n) v = cond (ltb v 10) [] (digits n (v / 10)) ++ ((48 + v % 10) ∷ [])

abbrev pub decimal : ℕ → List ℕ
decimal v = digits 10 v

-- words in a row with the byte s between them
abbrev pub parted : ℕ → List (List ℕ) → List ℕ
parted s [] = []
parted s (x ∷ []) = x
parted s (x ∷ (y ∷ ys)) = x ++ (s ∷ parted s (y ∷ ys))

-- words parted by spaces, then a line end
abbrev pub line : List (List ℕ) → List ℕ
line ws = parted 32 ws ++ (10 ∷ [])

-- numbers "joined by commas", `-` where there is none
abbrev pub commas : List ℕ → List ℕ
commas [] = 45 ∷ []
commas (k ∷ ks) = parted 44 (each decimal (k ∷ ks))

abbrev pub value_text : Option ℕ → List ℕ
value_text none = 45 ∷ []
value_text (some v) = decimal v

-- "per end, in decimal: end, last edge, target, value or `-`, paths"
unfoldable pub end_line : Board → ℕ → List ℕ
end_line d k =
    line (decimal k ∷ decimal (last_edge (end d k)) ∷ decimal (target_of d.table (end d k)) ∷ value_text (value (end d k)) ∷ each commas (sorted_paths (end d k)))

-- "First the number of ends; then per end .. The last line is the pick with no node named"
unfoldable pub board_text : Board → List ℕ → List ℕ
board_text d ks =
    line ((101 ∷ 110 ∷ 100 ∷ 115 ∷ []) ∷ decimal (how_many d) ∷ [])
    ++ gather (end_line d) (below (how_many d))
    ++ line ((112 ∷ 105 ∷ 99 ∷ 107 ∷ []) ∷ commas ks ∷ [])

-- "A refusal prints only `refused`, number and place."
abbrev pub refusal_text : ℕ → ℕ → List ℕ
refusal_text n p = line ((114 ∷ 101 ∷ 102 ∷ 117 ∷ 115 ∷ 101 ∷ 100 ∷ []) ∷ decimal n ∷ decimal p ∷ [])

abbrev pub text : Answer Board → Answer (List ℕ) → List ℕ
text (refused n p) a = refusal_text n p
text (good d) (refused n p) = refusal_text n p
text (good d) (good ks) = board_text d ks

-- "With count 0, which the program passes" (wish 1)
abbrev pub terms_part : List ℕ → Terms
terms_part s = terms (guards_part s) no_bounds

-- what is written for a stream
pub record Prints (s written : List ℕ) : Type 0 where
  pub picked : Answer (List ℕ)
  pub allowed : Pick (table_part s) (marking_part s) (terms_part s) 255 picked
  pub is-text : written ≡ text (board (table_part s) (marking_part s) (terms_part s)) picked

-- what is written for an input, however long it is: the text of what is read of it
abbrev pub PrintsFor : List ℕ → List ℕ → Type 0
PrintsFor input written = Prints (read_of input) written
