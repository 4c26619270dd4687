-- Masks of the ends that pass, and of those that belong to a node. Assumes nothing.
use mathlib.Core.Path.{◌≡◌, sym, ap, ◌∙◌}
use mathlib.Core.Bool.{Bool, not, ◌&&◌, ◌||◌}
use mathlib.Core.List.{List}
use Prim.Native.Nat.{ℕ, ◌<◌}
use native.Mathlib.Omega.{arith}
use lib.Dec.{leb}
use borrow.Author.Tests.{ne_eqb, le-leb}
use Rattle.paper.specs.Lists.{has, below, any, count}
use Rattle.paper.specs.Operations.{named}
use Rattle.paper.proofs.Counts.{count-below-same}
use Rattle.offers.specs.Sets.{Marks}
use Rattle.pick_bounds.specs.Net.{meets, held, in_both}
use Rattle.pick_bounds.proofs.Sets.{meets-held}
use Rattle.choice_masks.specs.Masks.{Owned}
use Rattle.ends_masks.specs.Seating.{served}
use Rattle.ends_masks.proofs.Numbers.{any-below-alike}

-- ---- a mask of the ends that pass
module _ {p : ℕ → Bool} {n w : ℕ} (h : Marks p n w) (c : ℕ) where
  alike : (k : ℕ) → k < n → in_both c w k ≡ has c k && p k
  alike k l = ap (λ (b : Bool). has c k && b) (h.says k l)

  pub meets-marks : meets n c w ≡ any (λ k. has c k && p k) (below n)
  unfolding meets
  meets-marks = any-below-alike (in_both c w) (λ k. has c k && p k) n alike

  pub held-marks : held n c w ≡ count (λ k. has c k && p k) (below n)
  unfolding held
  held-marks = count-below-same (in_both c w) (λ k. has c k && p k) n alike

pub meets-served : (target home : List ℕ) (n i w c : ℕ) → Owned target home n i w → meets n c w ≡ served target home n c i
unfolding served
meets-served target home n i w c h = meets-marks h c

-- ---- what is wanted
pub wanted-none : (target home : List ℕ) (n c : ℕ) → leb 0 (held n c 0) ≡ not (named 255) || served target home n c 255
wanted-none target home n c = le-leb 0 (held n c 0) (omega arith)

pub wanted-some : (target home : List ℕ) (n i w c : ℕ) → (i ≡ 255 → ⊥) → Owned target home n i w
    → leb 1 (held n c w) ≡ not (named i) || served target home n c i
wanted-some target home n i w c ne o =
    sym (meets-held n c w) ∙ meets-served target home n i w c o ∙ sym (rw (ne_eqb i 255 ne))
