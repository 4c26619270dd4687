-- Laws of writing a sheet: what its parts take, and that the parts behind one another are the sheet at the front. Assumes nothing.
use mathlib.Core.Path.{◌≡◌, refl, sym, ap, ◌∙◌}
use Prim.Native.Nat.{ℕ, ◌+◌, ◌-◌, ◌%◌, ◌≤◌, ◌<◌}
use native.Mathlib.Omega.{arith}
use native.Mathlib.Numerals.{add-one}
use mathlib.Core.Logic.{⊎_elim}
use mathlib.Core.List.{List, [], ◌∷◌, ◌++◌}
use lib.Dec.{eqb}
use lib.ListN.{length, take, drop, set, length-append}
use lib.Seq.{sets}
use Rattle.paper.specs.Lists.{at, below, gather}
use Rattle.paper.specs.Limits.{limits}
use Rattle.paper.specs.Bytes.{two, four}
use Rattle.paper.proofs.Bools.{true_or_false}
use Rattle.wire.specs.Totals.{total}
use Rattle.wire.proofs.Laws.{sets_then, sets-front}
use Rattle.wire.proofs.Runs.{length-total, part_length}
use Rattle.offers.specs.Rows.{rows_in}
use Rattle.ends_paths.specs.Blocks.{first_block, block_start, path_start}
use Rattle.sheet_write.specs.Listing.{value_shown, many, front_shown, path_shown, path_of, path_takes, end_takes, sheet_takes, end_shown, sheet_shown, Shows}

-- ---- a value
pub no_value : (d : List ℕ) (to h v : ℕ) → h ≡ 0 → sets (set d to 0) (to + 1) (four 0) ≡ sets d to (value_shown h v)
no_value d to h v e = rw (e, add-one to)

pub length-value : (h v : ℕ) → length (value_shown h v) ≡ 5
length-value h v = ⊎_elim (λ e. rw e) (λ e. rw e) (true_or_false (eqb h 0))

-- what stands before the paths of an end
pub front-is : (rows d : List ℕ) (to i : ℕ) {e h v m : ℕ} {x : List ℕ} → e ≡ ((rows_in rows 0).entry i).last % 256 → h ≡ ((rows_in rows 0).entry i).has % 256
    → v ≡ ((rows_in rows 0).entry i).value % 4294967296 → m ≡ many rows i → x ≡ sets (set d to e) (to + 1) (value_shown h v)
    → set x (to + 6) m ≡ sets d to (front_shown rows i)
front-is rows d to i {e} {h} {v} {m} ee eh ev em ex =
    rw ex (sets_then (value_shown h v) (m ∷ []) (set d to e) (to + 1) (to + 6) (omega (arith, length-value h v)) ∙ rw (add-one to, ee, eh, ev, em))

pub length_front : (rows : List ℕ) (i : ℕ) → length (front_shown rows i) ≡ 7
length_front rows i =
    let h = ((rows_in rows 0).entry i).has % 256 in
    let v = ((rows_in rows 0).entry i).value % 4294967296 in
    omega (arith, length-append (value_shown h v) (many rows i ∷ []), length-value h v)

-- ---- a path
module _ (lens cells : List ℕ) (q : ℕ) where
  pub path-is : (d : List ℕ) (to : ℕ)
      → sets (set d to (at lens q)) (to + 1) (take (at lens q) (drop (path_start q (at lens q)) cells)) ≡ sets d to (path_shown lens cells q)
  unfolding path_shown
  path-is d to = rw (add-one to)

  pub length-path : at lens q ≤ limits.longest_path → block_start q + limits.longest_path ≤ length cells → length (path_shown lens cells q) ≡ 1 + at lens q
  unfolding path_shown
  length-path s l = omega (arith, part_length cells (path_start q (at lens q)) (at lens q) (omega arith))

-- ---- an end
module _ {rows ends order lens cells : List ℕ} {n : ℕ} (s : Shows rows ends order lens cells n) where
  -- the paths of end k, as many as are shown
  abbrev shown_paths : ℕ → List ℕ
  shown_paths k = gather (path_of order lens cells k) (below (many rows (at ends k)))

  length-paths : (k : ℕ) → k < n → length (shown_paths k) ≡ total (path_takes order lens k) (many rows (at ends k))
  length-paths k l =
      let m = s.measured in
      length-total (path_of order lens cells k) (path_takes order lens k) (many rows (at ends k))
      (λ j h. length-path lens cells (at order (first_block k + j)) (m.short k j l h) (omega (arith, m.blocks k j l h, s.cells-there)))

  pub length-end : (k : ℕ) → k < n → length (end_shown rows ends order lens cells k) ≡ end_takes rows ends order lens k
  unfolding end_shown end_takes
  length-end k l = omega (arith, length-append (front_shown rows (at ends k)) (shown_paths k), length_front rows (at ends k), length-paths k l)

  -- its front is written, and then its paths
  module _ (to k : ℕ) {i m : ℕ} (ei : i ≡ at ends k) (em : m ≡ many rows i) where
    pub end_takes_more : to + 7 + total (path_takes order lens k) m ≡ to + end_takes rows ends order lens k
    unfolding end_takes
    end_takes_more = rw (em, ei) (omega arith)

    pub end-written : (d : List ℕ) {e : List ℕ} → e ≡ sets d to (front_shown rows i)
        → sets e (to + 7) (gather (path_of order lens cells k) (below m)) ≡ sets d to (end_shown rows ends order lens cells k)
    unfolding end_shown
    end-written d h =
        rw (h, em, ei) (sets_then (front_shown rows (at ends k)) (shown_paths k) d to (to + 7) (omega (arith, length_front rows (at ends k))))

  -- ---- the sheet
  abbrev shown_ends : List ℕ
  shown_ends = gather (end_shown rows ends order lens cells) (below n)

  length-ends : length shown_ends ≡ total (end_takes rows ends order lens) n
  length-ends = length-total (end_shown rows ends order lens cells) (end_takes rows ends order lens) n (λ k l. length-end k l)

  pub length-sheet : length (sheet_shown rows ends order lens cells n) ≡ sheet_takes rows ends order lens n
  unfolding sheet_shown sheet_takes
  length-sheet = omega (arith, length-ends)

  pub sheet-is : (d : List ℕ) (len : ℕ) → len ≡ sheet_takes rows ends order lens n → len ≤ length d
      → sets (sets d 0 (two (len - 2) ++ (1 ∷ n ∷ []))) 4 (gather (end_shown rows ends order lens cells) (below n))
      ≡ sheet_shown rows ends order lens cells n ++ drop len d
  unfolding sheet_shown sheet_takes
  sheet-is d len e room =
      let head = two (len - 2) ++ (1 ∷ n ∷ []) in
      let sheet = sheet_shown rows ends order lens cells n in
      let k : len - 2 ≡ length (1 ∷ n ∷ shown_ends) = omega (arith, length-ends) in
      let w : head ++ shown_ends ≡ sheet = rw k in
      let z : length sheet ≡ len = length-sheet ∙ sym e in
      sets_then head shown_ends d 0 4 refl ∙ ap (sets d 0) w ∙ sets-front sheet d (omega (arith, z)) ∙ ap (λ (l : ℕ). sheet ++ drop l d) z
