-- A choice is acceptable, and is one that pick wants, exactly if the rows and columns say so. Assumes nothing.
use mathlib.Core.Path.{◌≡◌, refl, ap, ap₂, ◌∙◌}
use Prim.Native.Nat.{ℕ}
use mathlib.Core.Bool.{Bool, true, false, not, ◌&&◌, ◌||◌, cond, and-true, not-not}
use mathlib.Core.List.{List, [], ◌∷◌}
use mathlib.Core.Option.{Option, none, some}
use Rattle.paper.specs.Lists.{has, below, all, find}
use Rattle.paper.specs.Answers.{◌>>=◌, refuse_if, judged_by, is_good}
use Rattle.paper.specs.Table.{nodes, kind, is_fork}
use Rattle.paper.specs.Offers.{Offer}
use Rattle.paper.specs.Choices.{Board, rule1, rule2, rule3, rules, acceptable}
use Rattle.paper.specs.Operations.{named, wanted}
use Rattle.offers.specs.Struct.{Beside, rows_of}
use Rattle.offers.specs.declared.Offers.{Offers}
use Rattle.ends_masks.specs.declared.Ends.{Ends}
use Rattle.ends_masks.specs.Seating.{Seated, MarkingTold, rivalled, first_rivalled, passed, forks, served, fits, homes, no_rivals, forks_whole, destinations_fit, allowed}
use Rattle.ends_masks.proofs.Numbers.{all-below-alike}
use Rattle.ends_masks.proofs.Rules.{rule1-rows, rule2-rows, rule3-rows, served-rows}

-- ---- a rule that finds no place
abbrev clear : Option ℕ → Bool
clear none = true
clear (some k) = false

find-clear : (p : ℕ → Bool) (xs : List ℕ) → clear (find p xs) ≡ all (λ k. not (p k)) xs
find-clear p [] = refl
find-clear p (x ∷ xs) = by (p x) (find-clear p xs)
  where
    by : (b : Bool) → clear (find p xs) ≡ all (λ k. not (p k)) xs → clear (cond b (some x) (find p xs)) ≡ not b && all (λ k. not (p k)) xs
    by true e = refl
    by false e = e

-- rules that find no place
judged_clear : {A : Type 0} (rs : List (ℕ × (A → Option ℕ))) (a : A) → is_good (judged_by rs a) ≡ all (λ r. clear (r.1 a)) rs
judged_clear [] a = refl
judged_clear (r ∷ rs) a = by (r.1 a) (judged_clear rs a)
  where
    by : (x : Option ℕ) → is_good (judged_by rs a) ≡ all (λ r. clear (r.1 a)) rs
        → is_good (refuse_if r.0 x >>= (λ u. judged_by rs a)) ≡ clear x && all (λ r. clear (r.1 a)) rs
    by none e = e
    by (some k) e = refl

module _ (t : List ℕ) (d : Board) (o : Offers) (beside : Beside) (ts : List Offer) (es : Ends) (c : ℕ) (s : Seated t d (rows_of o beside) ts es)
    (runs stock : List ℕ) (m : MarkingTold t d.current runs stock) where
  -- each rule finds no place exactly if the rows say that it is kept, and is then passed
  clear1 : clear (rule1 d c) ≡ no_rivals es.foes es.makers es.count c
  unfolding no_rivals first_rivalled
  clear1 = ap clear (rule1-rows t d o beside ts es c s) ∙ find-clear (λ j. has c j && rivalled es.foes es.makers es.count c j) (below es.count)

  clear2 : clear (rule2 d c) ≡ forks_whole t o.node o.parents es.makers o.count es.count c
  unfolding forks_whole forks
  clear2 =
      ap clear (rule2-rows t d o beside ts es c s)
      ∙ find-clear (λ i. is_fork (kind t i) && not (passed o.node o.parents es.makers o.count es.count c i)) (below (nodes t))

  clear3 : clear (rule3 d c) ≡ destinations_fit t es.edge es.target es.home runs stock es.count c
  unfolding destinations_fit homes
  clear3 =
      ap clear (rule3-rows t d o beside ts es c s runs stock m)
      ∙ find-clear (λ i. not (fits t es.edge es.target es.home runs stock es.count c i)) (below (nodes t))
      ∙ all-below-alike (λ i. not (not (fits t es.edge es.target es.home runs stock es.count c i))) (fits t es.edge es.target es.home runs stock es.count c) (nodes t) (λ i l. not-not _)

  pub passes1 : is_good (judged_by ((10, rule1 d) ∷ []) c) ≡ no_rivals es.foes es.makers es.count c
  passes1 = judged_clear ((10, rule1 d) ∷ []) c ∙ and-true (clear (rule1 d c)) ∙ clear1

  pub passes2 : is_good (judged_by ((11, rule2 d) ∷ []) c) ≡ forks_whole t o.node o.parents es.makers o.count es.count c
  passes2 = judged_clear ((11, rule2 d) ∷ []) c ∙ and-true (clear (rule2 d c)) ∙ clear2

  pub acceptable-rows : acceptable d c ≡ allowed t o es runs stock c
  unfolding acceptable allowed
  acceptable-rows =
      judged_clear (rules d) c ∙ ap₂ (λ (x y : Bool). x && y) clear1 (ap₂ (λ (x y : Bool). x && y) clear2 (ap (λ (x : Bool). x && true) clear3))

  pub wanted-rows : (i : ℕ) → wanted d i c ≡ allowed t o es runs stock c && (not (named i) || served es.target es.home es.count c i)
  unfolding wanted
  wanted-rows i = ap₂ (λ (x y : Bool). x && (not (named i) || y)) acceptable-rows (served-rows t d o beside ts es c s i)
