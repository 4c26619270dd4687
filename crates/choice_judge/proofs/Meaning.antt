-- What the rows' rules mean: on a board that stands they are the paper's rules 10 to 12. Assumes nothing.
use mathlib.Core.Path.{◌≡◌, sym}
use mathlib.Core.List.{List}
use Prim.Native.Nat.{ℕ}
use Rattle.paper.specs.Answers.{judged_by}
use Rattle.paper.specs.Choices.{Board, rules}
use Rattle.offers.specs.declared.Offers.{Offers}
use Rattle.ends_masks.specs.declared.Ends.{Ends}
use Rattle.ends_masks.specs.Seating.{Stands}
use Rattle.ends_masks.proofs.Rules.{rule1-rows, rule2-rows, rule3-rows}
use Rattle.choice_judge.specs.Judging.{row_rules}

pub judged_rows : (t : List ℕ) (d : Board) (o : Offers) (e : Ends) (runs stock : List ℕ) (c : ℕ) → Stands t d o e runs stock
    → judged_by (row_rules t o e runs stock) c ≡ judged_by (rules d) c
judged_rows t d o e runs stock c s =
    let z = s.seated in
    sym (rw (rule1-rows t d o s.beside s.trees e c z, rule2-rows t d o s.beside s.trees e c z, rule3-rows t d o s.beside s.trees e c z runs stock s.told))
