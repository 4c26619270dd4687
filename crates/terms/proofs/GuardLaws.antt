-- Row 7, from the bytes of the edges one by one. Assumes nothing.
use Prim.Native.Nat.{ℕ, ◌≤◌, ◌<◌}
use mathlib.Core.Path.{◌≡◌}
use mathlib.Core.Bool.{Bool, true, false, ◌&&◌}
use mathlib.Core.List.{List}
use lib.Dec.{leb, eqb}
use lib.ListN.{length}
use native.Mathlib.Omega.{arith}
use borrow.Author.Tests.{eqb-true, eq-eqb, ne_eqb, le-leb, lt-leb}
use Rattle.paper.specs.Lists.{at, ◌⇒◌}
use Rattle.paper.specs.Table.{edges, guarded}
use Rattle.paper.specs.Offers.{guards_fine}
use Rattle.paper.proofs.Bools.{and-true}
use Rattle.paper.proofs.Lists.{below_all, all_fails}

-- a byte for edge j, and the edge's own guarded byte
abbrev pub guard_fine : List ℕ → List ℕ → ℕ → Bool
guard_fine t g j = leb (at g j) 1 && (eqb (guarded t j) 0 ⇒ eqb (at g j) 1)

module _ (t g : List ℕ) where
  module _ (j : ℕ) where
    pub guard_over : 1 < at g j → guard_fine t g j ≡ false
    guard_over l = rw (lt-leb (at g j) 1 l)

    pub guard_any : at g j ≤ 1 → (guarded t j ≡ 0 → ⊥) → guard_fine t g j ≡ true
    guard_any l n = rw (le-leb (at g j) 1 l, ne_eqb (guarded t j) 0 n)

    pub guard_one : at g j ≤ 1 → guarded t j ≡ 0 → guard_fine t g j ≡ eqb (at g j) 1
    guard_one l n = rw (le-leb (at g j) 1 l, n)

  pub guards-number : (length g ≡ edges t → ⊥) → guards_fine t g ≡ false
  unfolding guards_fine
  guards-number n = rw (ne_eqb (length g) (edges t) n)

  module _ (e : length g ≡ edges t) where
    pub guards-fail : (j : ℕ) → j < edges t → guard_fine t g j ≡ false → guards_fine t g ≡ false
    unfolding guards_fine
    guards-fail j l h = rw (eq-eqb (length g) (edges t) e) (all_fails (guard_fine t g) (edges t) j l h)

    pub guards_pass : ((j : ℕ) → j < edges t → guard_fine t g j ≡ true) → guards_fine t g ≡ true
    unfolding guards_fine
    guards_pass h = rw (eq-eqb (length g) (edges t) e) (below_all (guard_fine t g) (edges t) h)

  -- fine guards have a byte for each edge
  pub guards-long : guards_fine t g ≡ true → edges t ≤ length g
  unfolding guards_fine
  guards-long h = let e = eqb-true (length g) (edges t) (and-true (eqb (length g) (edges t)) _ h).0 in omega (arith, e)
