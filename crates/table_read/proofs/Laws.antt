-- The ladder of rows 1 to 4 under any limits: none of them moves more than the counts that row 1 asks for. Assumes nothing.
use mathlib.Core.Path.{◌≡◌, sym, ap₂}
use Prim.Native.Nat.{ℕ, ◌<◌}
use native.Mathlib.Omega.{arith}
use mathlib.Core.Bool.{Bool, true, false, not}
use mathlib.Core.List.{List}
use mathlib.Core.Option.{none, some}
use borrow.Author.Tests.{not-false}
use Rattle.paper.specs.Lists.{lowest}
use Rattle.paper.specs.Answers.{refused, good}
use Rattle.paper.specs.Limits.{limits}
use Rattle.paper.specs.Table.{nodes, edges, frame_fine, node_fine, edge_fine, table_fine, chain_fine, shape_fine}
use Rattle.paper.proofs.Lists.{lowest-is, lowest-is-none}
use Rattle.table.specs.declared.Table.{Table}
use Rattle.table.specs.declared.Limits.{Limits}
use Rattle.table.specs.Reading.{counts_of, read_under, under}

pub row_1 : (l : Limits) (t : List ℕ) → frame_fine t (under l) ≡ false → refused 1 0 ≡ read_under (under l) t
unfolding read_under table_fine node_fine shape_fine chain_fine
row_1 l t f = sym (rw f)

module _ (l : Limits) (t : List ℕ) (frame : frame_fine t (under l) ≡ true) where
  pub row_2 : (i : ℕ) → lowest (λ k. not (node_fine t limits k)) (nodes t) ≡ some i → refused 2 i ≡ read_under (under l) t
  unfolding read_under table_fine node_fine shape_fine chain_fine
  row_2 i n = sym (rw (frame, n))

  module _ (nodes-pass : lowest (λ k. not (node_fine t limits k)) (nodes t) ≡ none) where
    pub row_3 : (j : ℕ) → lowest (λ k. not (edge_fine t k)) (edges t) ≡ some j → refused 3 j ≡ read_under (under l) t
    unfolding read_under table_fine node_fine shape_fine chain_fine
    row_3 j e = sym (rw (frame, nodes-pass, e))

    module _ (edges-pass : lowest (λ k. not (edge_fine t k)) (edges t) ≡ none) where
      pub row_4 : (i : ℕ) → lowest (λ k. not (shape_fine t limits k)) (nodes t) ≡ some i → refused 4 i ≡ read_under (under l) t
      unfolding read_under table_fine node_fine shape_fine chain_fine
      row_4 i s = sym (rw (frame, nodes-pass, edges-pass, s))

      pub no_row : lowest (λ k. not (shape_fine t limits k)) (nodes t) ≡ none → good (counts_of t) ≡ read_under (under l) t
      unfolding read_under table_fine node_fine shape_fine chain_fine
      no_row s = sym (rw (frame, nodes-pass, edges-pass, s))

-- where none fails, all pass
pub all_pass : (p : ℕ → Bool) (n : ℕ) → lowest (λ k. not (p k)) n ≡ none → (k : ℕ) → k < n → p k ≡ true
all_pass p n e k l = not-false (p k) (lowest-is-none (λ k. not (p k)) n e k l)

pub found_below : (p : ℕ → Bool) (n i : ℕ) → lowest p n ≡ some i → i < n
found_below p n i e = let f = lowest-is p n i e in omega arith

pub counted : (x : Table) (n e : ℕ) → x.nodes ≡ n → x.edges ≡ e → x ≡ record { nodes = n; edges = e }
counted x n e p q = ap₂ make p q
  where
    make : ℕ → ℕ → Table
    make a b = record { nodes = a; edges = b }
