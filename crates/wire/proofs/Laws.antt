-- Runs of stores: one behind another is one run, a run at the front leaves the run and then what was there, and a part written over is a run. Assumes nothing.
use mathlib.Core.Path.{◌≡◌, sym, ◌∙◌}
use mathlib.Core.List.{List, [], ◌∷◌, ◌++◌, append_assoc}
use Prim.Native.Nat.{ℕ, suc, ◌+◌, ◌≤◌}
use native.Mathlib.Nat.{zero-add, add-zero, add-suc, suc-add}
use native.Mathlib.Omega.{arith}
use lib.ListN.{length, take, drop, set}
use borrow.Rule.Slice.PartMut.{put_mid}
use Rattle.std.proofs.lemmas.List.{drop-drop}
use lib.Seq.{sets, sets-eq}

sets_append : (xs ys d : List ℕ) (i : ℕ) → sets (sets d i xs) (i + length xs) ys ≡ sets d i (xs ++ ys)
sets_append [] ys d i = rw add-zero
sets_append (x ∷ xs) ys d i = rw (add-suc, ← suc-add) (sets_append xs ys (set d i x) (suc i))

-- a run that starts where another ends
pub sets_then : (xs ys d : List ℕ) (i p : ℕ) → p ≡ i + length xs → sets (sets d i xs) p ys ≡ sets d i (xs ++ ys)
sets_then xs ys d i p e = rw e (sets_append xs ys d i)

pub sets-front : (vs d : List ℕ) → length vs ≤ length d → sets d 0 vs ≡ vs ++ drop (length vs) d
sets-front vs d h = sets-eq vs d 0 (omega arith) ∙ rw zero-add

-- a part written over is a run of stores
pub put_mid_sets : (i k : ℕ) (d ys vs : List ℕ) → ys ≡ vs → k ≡ length vs → i + length vs ≤ length d → put_mid i k d ys ≡ sets d i vs
put_mid_sets i k d ys vs e f h = rw (e, f, drop-drop) (sym (append_assoc (take i d) vs (drop (i + length vs) d)) ∙ sym (sets-eq vs d i h))
