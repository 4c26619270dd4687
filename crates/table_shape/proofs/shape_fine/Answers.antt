-- `shape_fine` is row 4 at a node, kind by kind. Assumes nothing.
use mathlib.Core.Path.{◌≡◌, sym, ap, ◌∙◌}
use mathlib.Core.Bool.{false}
use mathlib.Core.List.{List}
use Prim.Native.Nat.{ℕ}
use lib.Dec.{eqb}
use native.Mathlib.Omega.{arith}
use borrow.Author.Tests.{eq-eqb, ne_eqb}
use Rattle.paper.specs.Limits.{limits}
use Rattle.paper.specs.Table.{is_control_node, chain}
use Rattle.table_shape.proofs.Laws.{at-chain-end, at_action, at_merge, at_join, at_split, at_rest}
use Rattle.table_shape.proofs.shape_fine.Goals as goal

pub returns-then-rank-eq-HIGHEST : goal.returns-then-rank-eq-HIGHEST
returns-then-rank-eq-HIGHEST c = λ t i e h f g. sym (at-chain-end t i (sym g ∙ eq-eqb _ _ c.if-rank-eq-HIGHEST.true))

-- past the first test no chain of the forbidden length ends at the node
free : {rank : ℕ} → (rank ≡ limits.chain_too_long → ⊥) → (t : List ℕ) (i : ℕ) → eqb rank limits.chain_too_long ≡ chain t limits.chain_too_long i → chain t limits.chain_too_long i ≡ false
free n t i g = sym g ∙ ne_eqb _ _ n

pub returns-then-k-eq-ACTION : goal.returns-then-k-eq-ACTION
returns-then-k-eq-ACTION c =
    λ t i e h f g. c.action_fine.ensures t i h f ∙ at_action t i (free (λ e. omega arith) t i g) (sym e ∙ c.if-k-eq-ACTION.true)

pub returns-then-not-is_control_node : goal.returns-then-not-is_control_node
returns-then-not-is_control_node c =
    λ t i e h f g.
    at_rest t i (free (λ e. omega arith) t i g) (λ v. c.if-k-eq-ACTION.false (e ∙ v)) (ap is_control_node (sym e) ∙ sym c.is_control_node.ensures ∙ c.if-not-is_control_node.true)

pub returns-then-k-eq-MERGE : goal.returns-then-k-eq-MERGE
returns-then-k-eq-MERGE c =
    λ t i e h f g. c.merge_fine.ensures t i h ∙ at_merge t i (free (λ e. omega arith) t i g) (sym e ∙ c.if-k-eq-MERGE.true)

pub returns-then-k-eq-JOIN : goal.returns-then-k-eq-JOIN
returns-then-k-eq-JOIN c =
    λ t i e h f g. c.join_fine.ensures t i h ∙ at_join t i (free (λ e. omega arith) t i g) (sym e ∙ c.if-k-eq-JOIN.true)

pub returns : goal.returns
returns c =
    λ t i e h f g.
    c.split_fine.ensures t i h
    ∙ at_split t i (free (λ e. omega arith) t i g) (ap is_control_node (sym e) ∙ sym c.is_control_node.ensures ∙ c.if-not-is_control_node.false)
    (λ v. c.if-k-eq-MERGE.false (e ∙ v)) (λ v. c.if-k-eq-JOIN.false (e ∙ v))
