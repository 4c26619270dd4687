-- Rule 3 for an action asks "each incoming control edge"; no other edge enters an action, so code may ask every incoming edge. Assumes nothing.
use mathlib.Core.Path.{◌≡◌, refl, ap, subst, ◌∙◌}
use Prim.Native.Nat.{ℕ}
use mathlib.Core.Bool.{Bool, true, false, not, ◌&&◌}
use mathlib.Core.List.{List}
use lib.Dec.{eqb}
use lib.ListN.{length}
use borrow.Author.Tests.{eqb-true}
use Rattle.paper.specs.Lists.{all, keep, count, within}
use Rattle.paper.specs.Limits.{limits}
use Rattle.paper.specs.Answers.{good}
use Rattle.paper.specs.Table.{kind, lower, upper, target, into, inputs, is_action, is_object, is_control, may_enter, table_fine}
use Rattle.paper.specs.Offers.{last_edge}
use Rattle.paper.specs.Choices.{Board, taken_ends, arrivals, action_agrees}
use Rattle.paper.proofs.Bools.{never, iff}
use Rattle.paper.proofs.Members.{In, all_in, in_all, in_keep, keep_in}
use Rattle.paper.proofs.Tables.{table-good}
use Rattle.paper.proofs.Origins.{in_into}

-- an object edge may not enter an action
no_object : (b : Bool) → may_enter b 2 ≡ true → not b ≡ true
no_object true h = never false h refl
no_object false h = refl

module _ (t : List ℕ) (fine : table_fine t limits ≡ good tt) (a : ℕ) (act : is_action (kind t a) ≡ true) where
  pub enters-control : {e : ℕ} → In e (into t a) → is_control t e ≡ true
  enters-control {e} k =
      let r = in_into t a k in
      let q : kind t (target t e) ≡ 2 = ap (kind t) r.1 ∙ eqb-true (kind t a) 2 act in
      no_object (is_object t e) (subst (λ (n : ℕ). may_enter (is_object t e) n ≡ true) q ((table-good t limits fine).edge e r.0).may-enter)

  pub all-control : (p : ℕ → Bool) → all p (into t a) ≡ all p (keep (is_control t) (into t a))
  all-control p =
      iff _ _ (λ h. in_all p (keep (is_control t) (into t a)) (λ e k. all_in p h (in_keep (is_control t) (into t a) k).0))
      (λ h. in_all p (into t a) (λ e k. all_in p h (keep_in (is_control t) k (enters-control k))))

-- "exactly one taken end on each incoming control edge": no other edge enters an action, so every incoming edge may be asked
pub agrees-every-edge : (d : Board) (c a : ℕ) → table_fine d.table limits ≡ good tt → is_action (kind d.table a) ≡ true
    → action_agrees d c a
    ≡ not (d.current.runs a)
    && all (λ e. eqb (count (λ o. eqb (last_edge o) e) (taken_ends d c)) 1) (into d.table a)
    && all (λ p. within (lower d.table p) (upper d.table p) (length (arrivals d c p))) (inputs d.table a)
unfolding action_agrees
agrees-every-edge d c a fine act = rw (all-control d.table fine a act (λ e. eqb (count (λ o. eqb (last_edge o) e) (taken_ends d c)) 1))
