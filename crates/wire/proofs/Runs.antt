-- What is written one piece behind another: what the pieces take, how a run of them grows by one, and a copy. Assumes nothing.
use mathlib.Core.Path.{◌≡◌, refl, sym, ap, ap₂, ◌∙◌}
use Prim.Native.Nat.{ℕ, zero, suc, ◌+◌, ◌≤◌, ◌<◌}
use native.Mathlib.Omega.{arith}
use native.Mathlib.Nat.{eq-or-lt_of_le, le_of_suc-le-suc}
use native.Mathlib.Numerals.{add-one}
use mathlib.Core.Logic.{⊎_elim}
use mathlib.Core.List.{List, [], ◌∷◌, ◌++◌, append-nil}
use lib.ListN.{length, take, drop, set, length-append, length-drop}
use lib.Seq.{sets, take-suc, length-take-le, get_or-drop}
use Rattle.paper.specs.Lists.{at, below, gather}
use Rattle.paper.proofs.Lists.{below_suc}
use Rattle.paper.proofs.Lengths.{gather_append}
use Rattle.wire.specs.Totals.{total}
use Rattle.wire.proofs.Laws.{sets_then}

-- ---- sums
pub total-more : (g : ℕ → ℕ) (i : ℕ) → total g (i + 1) ≡ total g i + g i
unfolding total
total-more g i = rw add-one

pub total-room : (g : ℕ → ℕ) (i n : ℕ) → i < n → total g i + g i ≤ total g n
unfolding total
total-room g i zero l = absurd (omega arith)
total-room g i (suc n) l = ⊎_elim (λ e. rw e (omega arith)) (λ k. omega (arith, total-room g i n k)) (eq-or-lt_of_le (le_of_suc-le-suc l))

-- ---- lists of all numbers below n, one after another
pub gather-suc : (f : ℕ → List ℕ) (n : ℕ) → gather f (below (suc n)) ≡ gather f (below n) ++ f n
gather-suc f n =
    ap (gather f) (below_suc n) ∙ gather_append f (below n) (n ∷ []) ∙ ap (λ (l : List ℕ). gather f (below n) ++ l) (append-nil (f n))

pub gather-same : (f g : ℕ → List ℕ) (n : ℕ) → ((i : ℕ) → i < n → f i ≡ g i) → gather f (below n) ≡ gather g (below n)
gather-same f g zero h = refl
gather-same f g (suc n) h =
    gather-suc f n ∙ ap₂ (λ (a b : List ℕ). a ++ b) (gather-same f g n (λ i l. h i (omega arith))) (h n (omega arith)) ∙ sym (gather-suc g n)

pub length-total : (f : ℕ → List ℕ) (g : ℕ → ℕ) (n : ℕ) → ((i : ℕ) → i < n → length (f i) ≡ g i) → length (gather f (below n)) ≡ total g n
unfolding total
length-total f g zero h = refl
length-total f g (suc n) h =
    ap length (gather-suc f n) ∙ length-append (gather f (below n)) (f n)
    ∙ ap₂ (λ (a b : ℕ). a + b) (length-total f g n (λ i l. h i (omega arith))) (h n (omega arith))

-- one field more, written where the fields before it end
pub run_more : (f : ℕ → List ℕ) (g : ℕ → ℕ) (d : List ℕ) (start p i : ℕ) → ((k : ℕ) → k < i → length (f k) ≡ g k) → p ≡ start + total g i
    → sets (sets d start (gather f (below i))) p (f i) ≡ sets d start (gather f (below (i + 1)))
run_more f g d start p i h e =
    sets_then (gather f (below i)) (f i) d start p (omega (arith, length-total f g i h))
    ∙ ap (sets d start) (sym (gather-suc f i) ∙ ap (λ (n : ℕ). gather f (below n)) (sym (add-one i)))

-- ---- a copy
pub part_length : (s : List ℕ) (from n : ℕ) → from + n ≤ length s → length (take n (drop from s)) ≡ n
part_length s from n h = length-take-le n (drop from s) (simp length-drop (omega arith))

-- one byte more
pub copy_more : (d s : List ℕ) (to from i : ℕ) → from + i < length s
    → set (sets d to (take i (drop from s))) (to + i) (at s (from + i)) ≡ sets d to (take (i + 1) (drop from s))
copy_more d s to from i l =
    let b = drop from s in
    let k : i < length b = simp length-drop (omega arith) in
    ap (set (sets d to (take i b)) (to + i)) (sym (get_or-drop from s i 0))
    ∙ sets_then (take i b) (at b i ∷ []) d to (to + i) (omega (arith, part_length s from i (omega arith)))
    ∙ ap (sets d to) (sym (take-suc b i 0 k) ∙ ap (λ (n : ℕ). take n b) (sym (add-one i)))
