-- "So control nodes form no cycle": on a good table no route over edges through control nodes comes back to where it began. Assumes nothing.
use mathlib.Core.Path.{◌≡◌, refl, ap, subst, ◌∙◌}
use Prim.Native.Nat.{ℕ, zero, suc, ◌<◌}
use mathlib.Core.Bool.{true}
use mathlib.Core.List.{List}
use lib.Dec.{eqb}
use borrow.Author.Tests.{eq-eqb}
use Rattle.paper.specs.Limits.{limits}
use Rattle.paper.specs.Answers.{good}
use Rattle.paper.specs.Table.{nodes, edges, kind, source, target, into, is_control_node, chain, table_fine}
use Rattle.paper.proofs.Bools.{never}
use Rattle.paper.proofs.Members.{keep_in, below_in}
use Rattle.paper.proofs.Tables.{table-good}
use Rattle.paper.proofs.Fuel.{chain_shorter, chain_longer}

-- an edge from control node i to control node k
pub record Linked (t : List ℕ) (i k : ℕ) : Type 0 where
  pub edge : ℕ
  pub in_table : edge < edges t
  pub leaves : source t edge ≡ i
  pub enters : target t edge ≡ k
  pub from-control : is_control_node (kind t i) ≡ true
  pub to_control : is_control_node (kind t k) ≡ true

-- one such edge or more, each from where the one before led
pub data Route (t : List ℕ) : ℕ → ℕ → Type 0 where
  link : {i k : ℕ} → Linked t i k → Route t i k
  onward : {i j k : ℕ} → Route t i j → Linked t j k → Route t i k

module _ (t : List ℕ) where
  -- a chain up to an edge's source goes on to its target
  link_longer : (n i k : ℕ) → Linked t i k → chain t n i ≡ true → chain t (suc n) k ≡ true
  unfolding into
  link_longer n i k l h =
      chain_longer t n k l.edge l.to_control (keep_in (λ j. eqb (target t j) k) (below_in (edges t) l.in_table) (eq-eqb _ _ l.enters))
      (ap (chain t n) l.leaves ∙ h)

  route_longer : (n : ℕ) {i k : ℕ} → Route t i k → chain t n i ≡ true → chain t (suc n) k ≡ true
  route_longer n {i} {k} (link l) h = link_longer n i k l h
  route_longer n {k = k} (onward {j = j} p l) h = chain_shorter t (suc n) k (link_longer (suc n) j k l (route_longer n p h))

  -- where a path comes back, chains of any length end
  round : {i : ℕ} → Route t i i → (n : ℕ) → chain t n i ≡ true
  unfolding chain
  round p zero = refl
  round p (suc n) = route_longer n p (round p n)

  module _ (fine : table_fine t limits ≡ good tt) where
    link_ends : {i k : ℕ} → Linked t i k → k < nodes t
    link_ends l = subst (λ (n : ℕ). n < nodes t) l.enters ((table-good t limits fine).edge l.edge l.in_table).target_fits

    route-ends : {i k : ℕ} → Route t i k → k < nodes t
    route-ends (link l) = link_ends l
    route-ends (onward p l) = link_ends l

    pub no_cycle : (i : ℕ) → Route t i i → ⊥
    no_cycle i p = never (chain t limits.chain_too_long i) (round p limits.chain_too_long) ((table-good t limits fine).shape i (route-ends p)).no_chain
