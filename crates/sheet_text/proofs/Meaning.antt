-- The text that a sheet's bytes have is the text of its board: what is behind each place are the bytes of the ends that are left. Assumes nothing.
use mathlib.Core.Path.{◌≡◌, refl, sym, ap, subst, ◌∙◌}
use Prim.Native.Nat.{ℕ, suc, ◌+◌, ◌≤◌, compare}
use native.Mathlib.Omega.{arith}
use native.Mathlib.Nat.{add-zero}
use native.Mathlib.Numerals.{add-one}
use mathlib.Core.List.{List, [], ◌∷◌, ◌++◌, append_assoc}
use mathlib.Core.Option.{Option, none, some}
use lib.ListN.{length, get_or, drop, length-append, length-drop}
use lib.Seq.{drop-drop, get_or-drop, take-append_seam, drop-append_seam}
use Rattle.paper.specs.Lists.{at, from, below, each, gather}
use Rattle.paper.specs.Limits.{limits}
use Rattle.paper.specs.Bytes.{four}
use Rattle.paper.specs.Table.{nodes, edges, target}
use Rattle.paper.specs.Offers.{Offer, first, last_edge, value, paths, sorted_paths, lex}
use Rattle.paper.specs.Choices.{Board, how_many, end}
use Rattle.paper.specs.Operations.{value_bytes, end_bytes, sheet_bytes}
use Rattle.paper.specs.Program.{decimal, commas, line, value_text, end_line, board_text}
use Rattle.paper.proofs.Bytes.{four_back}
use Rattle.paper.proofs.Boards.{board-good}
use Rattle.paper.proofs.Sizes.{sheet_most}
use Rattle.paper.specs.Bytes.{word_at}
use Rattle.paper.proofs.Lengths.{drop_head, gather-each}
use Rattle.paper.proofs.Members.{In, here, later}
use Rattle.paper.proofs.Orders.{sort-length}
use Rattle.paper.proofs.Tables.{table-good}
use Rattle.table.specs.declared.Table.{Table}
use Rattle.table.specs.Reading.{counts_of, Spans}
use Rattle.sheet_text.specs.Printed.{path_over, paths_over, path_printed, paths_printed, value_printed, head_printed, end_over, end_printed, ends_over, ends_printed, EndsFit, count_printed, pick_printed, text_printed}
use Rattle.sheet_text.specs.Sheets.{Sheet}
use Rattle.sheet_numbers.proofs.Decimals.{parted-more}
use Rattle.sheet_text.proofs.Boards.{Small, EndFacts, end_facts}

-- ---- what is behind a place
record Rest (s : List ℕ) (p : ℕ) (bytes : List ℕ) : Type 0 where
  inside : p ≤ length s
  is-rest : drop p s ≡ bytes

module _ {s : List ℕ} {p : ℕ} where
  rest-on : (x y : List ℕ) → Rest s p (x ++ y) → Rest s (p + length x) y
  rest-on x y r = record {
    inside = omega (arith, r.inside, sym (length-drop p s) ∙ ap length r.is-rest ∙ length-append x y);
    is-rest = sym (drop-drop (length x) p s) ∙ ap (drop (length x)) r.is-rest ∙ drop-append_seam x y;
  }

  rest_to : {bytes : List ℕ} (q : ℕ) → p ≡ q → Rest s p bytes → Rest s q bytes
  rest_to q e r = rw e at r

  rest_at : {bytes : List ℕ} (i : ℕ) → Rest s p bytes → at s (p + i) ≡ at bytes i
  rest_at i r = sym (get_or-drop p s i 0) ∙ ap (λ (l : List ℕ). at l i) r.is-rest

  rest-head : (x : ℕ) (y : List ℕ) → Rest s p (x ∷ y) → at s p ≡ x
  rest-head x y r = (drop_head s y p x r.is-rest).1

-- ---- paths
abbrev path_bytes : List ℕ → List ℕ
path_bytes q = length q ∷ q

module _ {s : List ℕ} where
  path-over : {p : ℕ} (q rest : List ℕ) → Rest s p (path_bytes q ++ rest) → Rest s (path_over s p) rest
  path-over {p} q rest r =
      let e : p + length (path_bytes q) ≡ path_over s p = omega (arith, rest-head (length q) (q ++ rest) r) in
      rest_to (path_over s p) e (rest-on (path_bytes q) rest r)

  path_here : {p : ℕ} (q rest : List ℕ) → Rest s p (path_bytes q ++ rest) → path_printed s p ≡ 32 ∷ commas q
  unfolding path_printed
  path_here {p} q rest r =
      let b : Rest s (p + 1) (q ++ rest) = rest-on (length q ∷ []) (q ++ rest) r in
      rw (rest-head (length q) (q ++ rest) r, b.is-rest, take-append_seam q rest)

  paths-over : {p : ℕ} (qs : List (List ℕ)) (rest : List ℕ) → Rest s p (gather path_bytes qs ++ rest) → Rest s (paths_over s p (length qs)) rest
  unfolding paths_over
  paths-over [] rest r = r
  paths-over {p = p} (q ∷ qs) rest r = paths-over {p = path_over s p} qs rest (path-over q (gather path_bytes qs ++ rest) (rw append_assoc at r))

  paths_here : {p : ℕ} (qs : List (List ℕ)) (rest : List ℕ) → Rest s p (gather path_bytes qs ++ rest) → paths_printed s p (length qs) ≡ gather (λ q. 32 ∷ commas q) qs
  unfolding paths_printed
  paths_here [] rest r = refl
  paths_here {p = p} (q ∷ qs) rest r =
      let z = rw append_assoc at r in
      rw (path_here q (gather path_bytes qs ++ rest) z, paths_here {p = path_over s p} qs rest (path-over q (gather path_bytes qs ++ rest) z))

  -- ---- what stands before the paths of an end
  value_here : {p : ℕ} (v : Option ℕ) (rest : List ℕ) → Small v → Rest s p (value_bytes v ++ rest) → value_printed s p ≡ 32 ∷ value_text v
  unfolding value_printed
  value_here none rest m r = rw (rest-head 0 (four 0 ++ rest) r)
  value_here {p} (some v) rest m r =
      let b : Rest s (p + 1) (four v ++ rest) = rest-on (1 ∷ []) (four v ++ rest) r in
      let w : word_at s (p + 1) ≡ v = rw (rest-head _ _ b, rest_at 1 b, rest_at 2 b, rest_at 3 b) (four_back v (m v refl)) in
      rw (rest-head 1 (four v ++ rest) r, w)

  value-over : {p : ℕ} (v : Option ℕ) (rest : List ℕ) → Rest s p (value_bytes v ++ rest) → Rest s (p + 5) rest
  value-over none rest r = rest-on (value_bytes none) rest r
  value-over (some v) rest r = rest-on (value_bytes (some v)) rest r

-- ---- an end
-- the line of the end o as end k
unfoldable line_of : List ℕ → ℕ → Offer → List ℕ
line_of t k o = line (decimal k ∷ decimal (last_edge o) ∷ decimal (target t (last_edge o)) ∷ value_text (value o) ∷ each commas (sorted_paths o))

-- word behind word
line-is : (a b c v : List ℕ) (qs : List (List ℕ)) → a ++ (32 ∷ b) ++ (32 ∷ c) ++ (32 ∷ v) ++ gather (λ q. 32 ∷ commas q) qs ++ (10 ∷ []) ≡ line (a ∷ b ∷ c ∷ v ∷ each commas qs)
line-is a b c v qs = rw (parted-more 32 a (b ∷ c ∷ v ∷ each commas qs), gather-each (λ y. 32 ∷ y) commas qs) (simp append_assoc)

module _ {s : List ℕ} {p : ℕ} (o : Offer) (rest : List ℕ) (r : Rest s p (end_bytes o ++ rest)) where
  abbrev blocks : List ℕ
  blocks = gather path_bytes (sorted_paths o) ++ rest

  behind-edge : Rest s (p + 1) (value_bytes (value o) ++ (length (paths o) ∷ blocks))
  unfolding end_bytes
  behind-edge =
      let b = rest-on (last_edge o ∷ []) (value_bytes (value o) ++ (length (paths o) ∷ gather path_bytes (sorted_paths o)) ++ rest) r in
      rw append_assoc at b

  behind-value : Rest s (p + 6) (length (paths o) ∷ blocks)
  behind-value = rest_to (p + 6) (omega arith) (value-over (value o) (length (paths o) ∷ blocks) behind-edge)

  many-are : at s (p + 6) ≡ length (sorted_paths o)
  unfolding sorted_paths
  many-are = rest-head (length (paths o)) blocks behind-value ∙ sym (sort-length (lex compare) (paths o))

  behind-many : Rest s (p + 7) blocks
  behind-many = rest_to (p + 7) (omega arith) (rest-on (length (paths o) ∷ []) blocks behind-value)

  edge_here : at s p ≡ last_edge o
  unfolding end_bytes
  edge_here = rest-head (last_edge o) _ r

  end-over : Rest s (end_over s p) rest
  unfolding end_over
  end-over = rw many-are (paths-over (sorted_paths o) rest behind-many)

  end_here : (t : List ℕ) (k : ℕ) → Small (value o) → end_printed t s p k ≡ line_of t k o
  unfolding end_printed head_printed line_of
  end_here t k m =
      rw (edge_here, many-are, value_here (value o) (length (paths o) ∷ blocks) m behind-edge, paths_here (sorted_paths o) rest behind-many)
      (line-is (decimal k) (decimal (last_edge o)) (decimal (target t (last_edge o))) (value_text (value o)) (sorted_paths o))

-- ---- all ends
unfoldable lines_of : List ℕ → ℕ → List Offer → List ℕ
lines_of t k [] = []
lines_of t k (o ∷ es) = line_of t k o ++ lines_of t (suc k) es

ends-inside : {s : List ℕ} {p : ℕ} (es : List Offer) → Rest s p (gather end_bytes es) → ends_over s p (length es) ≤ length s
unfolding ends_over
ends-inside [] r = r.inside
ends-inside {s = s} {p = p} (o ∷ es) r = ends-inside {s = s} {p = end_over s p} es (end-over o (gather end_bytes es) r)

module _ {t s : List ℕ} where
  ends_here : {p : ℕ} (k : ℕ) (es : List Offer) → ((o : Offer) → In o es → EndFacts t o) → Rest s p (gather end_bytes es) → ends_printed t s p k (length es) ≡ lines_of t k es
  unfolding ends_printed lines_of
  ends_here k [] f r = refl
  ends_here {p = p} k (o ∷ es) f r =
      rw (end_here o (gather end_bytes es) r t k (f o (here refl)).small, ends_here {p = end_over s p} (suc k) es (λ x i. f x (later i)) (end-over o (gather end_bytes es) r))

  ends_fit : {p : ℕ} (es : List Offer) → ((o : Offer) → In o es → EndFacts t o) → Rest s p (gather end_bytes es) → EndsFit t s p (length es)
  unfolding EndsFit
  ends_fit [] f r = tt
  ends_fit {p = p} (o ∷ es) f r =
      (rw (edge_here o (gather end_bytes es) r) (f o (here refl)).edge, ends_fit {p = end_over s p} es (λ x i. f x (later i)) (end-over o (gather end_bytes es) r))

-- by their numbers
line_as : (d : Board) (k : ℕ) (o : Offer) → end d k ≡ o → line_of d.table k o ≡ end_line d k
unfolding line_of end_line
line_as d k o e = subst (λ (x : Offer). line_of d.table k x ≡ end_line d k) e refl

numbered : (d : Board) (k : ℕ) (es : List Offer) → drop k d.all_ends ≡ es → lines_of d.table k es ≡ gather (end_line d) (from k (length es))
unfolding lines_of
numbered d k [] h = refl
numbered d k (o ∷ es) h =
    let e : end d k ≡ o = rw (add-zero k) at (sym (get_or-drop k d.all_ends 0 (first 0 none)) ∙ ap (λ (l : List Offer). get_or l 0 (first 0 none)) h) in
    let g : drop (suc k) d.all_ends ≡ es = rw (add-one k) at (sym (drop-drop 1 k d.all_ends) ∙ ap (drop 1) h) in
    rw (line_as d k o e, numbered d (suc k) es g)

lines_are : (d : Board) (t : List ℕ) → d.table ≡ t → lines_of t 0 d.all_ends ≡ gather (end_line d) (below (how_many d))
lines_are d t h = rw (← h) (numbered d 0 d.all_ends refl)

-- ---- a sheet
ends-from : (s : List ℕ) (es : List Offer) → s ≡ sheet_bytes es → Rest s 4 (gather end_bytes es) × (at s 3 ≡ length es)
unfolding sheet_bytes
ends-from s es h = rw h (record { inside = omega arith; is-rest = refl }, refl)

-- the n ends of s lie inside it, and their edges are of the table
pub record Reads (t s : List ℕ) (n : ℕ) : Type 0 where
  pub spans : Spans t (counts_of t)
  pub head : 4 ≤ length s
  pub inside : ends_over s 4 n ≤ length s
  pub fit : EndsFit t s 4 n

pub spans_as : {t : List ℕ} {x : Table} → Spans t (counts_of t) → x.nodes ≡ nodes t → x.edges ≡ edges t → Spans t x
spans_as s n e = record { nodes-read = n; edges-read = e; few-nodes = s.few-nodes; few-edges = s.few-edges; whole = s.whole }

pub shown-is : (t s ks : List ℕ) (n : ℕ) → n ≡ at s 3 → count_printed n ++ ends_printed t s 4 0 n ++ pick_printed ks ≡ text_printed t s ks
unfolding text_printed
shown-is t s ks n e = rw e

module _ {t s : List ℕ} (x : Sheet t s) where
  abbrev es : List Offer
  es = x.of.all_ends

  facts : (o : Offer) → In o es → EndFacts t o
  facts = end_facts t x.marking x.under x.of x.marking-bytes x.is-board

  from-four : Rest s 4 (gather end_bytes es)
  from-four = (ends-from s es x.is-sheet).0

  count_here : at s 3 ≡ length es
  count_here = (ends-from s es x.is-sheet).1

  pub sheet_reads : (n : ℕ) → n ≡ at s 3 → Reads t s n
  sheet_reads n e =
      let f = (table-good t limits (board-good t x.marking x.under x.of x.is-board).table-fine).frame in
      let c : n ≡ length es = e ∙ count_here in
      record {
        spans = record { nodes-read = refl; edges-read = refl; few-nodes = f.nodes_fit; few-edges = f.edges_fit; whole = f.all-of_it };
        head = omega (arith, from-four.inside);
        inside = rw c (ends-inside es from-four);
        fit = rw c (ends_fit es facts from-four);
      }

  pub text-is : (ks : List ℕ) → text_printed t s ks ≡ board_text x.of ks
  unfolding text_printed board_text count_printed pick_printed
  text-is ks =
      let b = board-good t x.marking x.under x.of x.is-board in
      rw (count_here, ends_here 0 es facts from-four, lines_are x.of t b.facts.is-table)

  pub sheet-fits : length s ≤ 4096
  sheet-fits = omega (arith, ap length x.is-sheet, sheet_most t x.marking x.under x.of x.is-board)
