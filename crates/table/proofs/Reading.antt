-- What a table's reading says of its bytes, for the operations above: the ladder's rows where it is refused, and what every reader may rely on where
-- it is good. Assumes nothing.
use mathlib.Core.Path.{◌≡◌, refl, sym, ap}
use Prim.Native.Nat.{ℕ, zero, suc, ◌≤◌, ◌<◌}
use native.Mathlib.Omega.{arith}
use mathlib.Core.Bool.{Bool, true, false, not}
use mathlib.Core.List.{List}
use mathlib.Core.Option.{none, some}
use lib.ListN.{replicate}
use Rattle.paper.specs.Lists.{lowest}
use Rattle.paper.specs.Answers.{Answer, refused, good, ◌>>=◌}
use Rattle.paper.specs.Limits.{limits}
use Rattle.paper.specs.Table.{source, target, table_fine}
use Rattle.paper.proofs.Lists.{lowest-none, lowest-some}
use Rattle.paper.proofs.Ladders.{no_good, row-good, same_good}
use Rattle.paper.proofs.Tables.{GoodTable, table-good}
use Rattle.table.specs.declared.Table.{Table}
use Rattle.table.specs.Reading.{counts_of, read_under, table_read, Spans, Blank}

-- the rows alone, without the counts
pub read-refused : (t : List ℕ) (n p : ℕ) → table_read t ≡ refused n p → table_fine t limits ≡ refused n p
unfolding read_under
read-refused t n p e = by (table_fine t limits) e
  where
    by : (a : Answer (Unit {0})) → a >>= (λ u. good (counts_of t)) ≡ refused n p → a ≡ refused n p
    by (refused k q) e = cc
    by (good u) e = no_good (sym e)

module _ (t : List ℕ) {x : Table} (h : table_read t ≡ good x) where
  pub read-fine : table_fine t limits ≡ good tt
  unfolding read_under
  read-fine = (row-good (table_fine t limits) (λ u. good (counts_of t)) x h).1

  counts-read : counts_of t ≡ x
  unfolding read_under
  counts-read = same_good (row-good (table_fine t limits) (λ u. good (counts_of t)) x h).2

  pub read-good : GoodTable t limits
  read-good = table-good t limits read-fine

  pub read-spans : Spans t x
  read-spans =
      let f = read-good.frame in
      record {
        nodes-read = sym (ap (λ (y : Table). y.nodes) counts-read);
        edges-read = sym (ap (λ (y : Table). y.edges) counts-read);
        few-nodes = f.nodes_fit;
        few-edges = f.edges_fit;
        whole = f.all-of_it;
      }

  -- the counts keep to the limits
  pub nodes_most : x.nodes ≤ limits.most_nodes
  nodes_most = let s = read-spans in rw (sym s.nodes-read) at s.few-nodes

  pub edges_most : x.edges ≤ limits.most_edges
  edges_most = let s = read-spans in rw (sym s.edges-read) at s.few-edges

  -- an edge's ends are nodes
  pub source-node : (j : ℕ) → j < x.edges → source t j < x.nodes
  source-node j l =
      let s = read-spans in
      omega (arith, (read-good.edge j (omega arith)).source_fits)

  pub target-node : (j : ℕ) → j < x.edges → target t j < x.nodes
  target-node j l =
      let s = read-spans in
      omega (arith, (read-good.edge j (omega arith)).target_fits)

-- ---- the lowest that fails
module _ (p : ℕ → Bool) (n : ℕ) where
  pub fails_at : (i : ℕ) → ((k : ℕ) → k < i → p k ≡ true) → p i ≡ false → i < n → lowest (λ k. not (p k)) n ≡ some i
  fails_at i h e l = lowest-some (λ k. not (p k)) n i (λ k u. ap not (h k u)) (ap not e) l

  pub fails_nowhere : ((k : ℕ) → k < n → p k ≡ true) → lowest (λ k. not (p k)) n ≡ none
  fails_nowhere h = lowest-none (λ k. not (p k)) n (λ k u. ap not (h k u))

-- an array that is not written yet
pub blank : (n : ℕ) → Blank (replicate n 0)
blank zero i = refl
blank (suc n) zero = refl
blank (suc n) (suc i) = blank n i
