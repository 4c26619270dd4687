-- What check, start and finish answer of a table that is refused, and check of one that is not. Assumes nothing.
use mathlib.Core.Path.{◌≡◌, sym}
use mathlib.Core.List.{List, []}
use Prim.Native.Nat.{ℕ}
use Rattle.paper.specs.Answers.{refused, good}
use Rattle.paper.specs.Operations.{check, start, finish}
use Rattle.table.specs.declared.Table.{Table}
use Rattle.table.specs.Reading.{table_read}
use Rattle.table.proofs.Reading.{read-refused, read-fine}

-- ---- check
pub check-refused : (t : List ℕ) (n p : ℕ) → table_read t ≡ refused n p → refused n p ≡ check t
unfolding check
check-refused t n p e = sym (rw (read-refused t n p e))

pub check-good : (t : List ℕ) (x : Table) → table_read t ≡ good x → good [] ≡ check t
unfolding check
check-good t x e = sym (rw (read-fine t e))

-- ---- start
pub start-refused : (t b : List ℕ) (n p : ℕ) → table_read t ≡ refused n p → start t b ≡ refused n p
unfolding start
start-refused t b n p e = rw (read-refused t n p e)

-- ---- finish
pub finish-refused : (t b : List ℕ) (a : ℕ) (vs : List ℕ) (n p : ℕ) → table_read t ≡ refused n p → finish t b a vs ≡ refused n p
unfolding finish
finish-refused t b a vs n p e = rw (read-refused t n p e)
