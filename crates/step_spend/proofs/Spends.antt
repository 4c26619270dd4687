-- Which nodes lose a value, by the marks of spent edges. Assumes nothing.
use mathlib.Core.Path.{◌≡◌, sym, ◌∙◌}
use Prim.Native.Nat.{ℕ}
use mathlib.Core.Bool.{Bool, ◌&&◌, and_comm}
use mathlib.Core.List.{List}
use lib.Dec.{eqb}
use Rattle.paper.specs.Lists.{below}
use Rattle.paper.specs.Table.{edges, source, out}
use Rattle.paper.proofs.Counts.{any-keep, any_same}
use Rattle.words.specs.Marks.{placed}
use Rattle.step_spend.specs.Spending.{loses}

-- the nodes that a spent edge leaves, as a pass over the edges finds them
pub leaves : (p : ℕ → Bool) (t : List ℕ) (i : ℕ) → placed p (source t) (edges t) i ≡ loses p t i
unfolding out
leaves p t i =
    any_same (λ e. p e && eqb (source t e) i) (λ e. eqb (source t e) i && p e) (λ e. and_comm (p e) (eqb (source t e) i)) (below (edges t))
    ∙ sym (any-keep (λ e. eqb (source t e) i) p (below (edges t)))
