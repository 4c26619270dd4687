-- What a good table says of its frame, nodes, edges and shape: rows 1 to 4 as facts. Assumes nothing.
use mathlib.Core.Path.{◌≡◌}
use Prim.Native.Nat.{ℕ, ◌≤◌, ◌<◌}
use native.Mathlib.Omega.{arith}
use mathlib.Core.Bool.{Bool, true, false, not, ◌&&◌, cond}
use mathlib.Core.List.{List}
use lib.Dec.{leb, ltb, eqb}
use lib.ListN.{length}
use borrow.Author.Tests.{ltb-true, leb-true, le-leb, eqb-true, eq-eqb, not-true}
use Rattle.paper.specs.Lists.{lowest, within}
use Rattle.paper.specs.Answers.{good, refuse_if}
use Rattle.paper.specs.Limits.{Limits}
use Rattle.paper.specs.Bytes.{framed}
use Rattle.paper.specs.Table.{version, nodes, edges, edge_at, kind, owner, lower, upper, is_pin, is_action, is_object_node, is_input}
use Rattle.paper.specs.Table.{edge_kind, source, target, guarded, is_object, may_leave, may_enter, frame_fine, node_fine, edge_fine}
use Rattle.paper.specs.Table.{degrees_fine, one_kind, join_fine, action_fine, chain, chain_fine, shape_fine, table_fine}
use Rattle.paper.proofs.Bools.{and-true, and_both}
use Rattle.paper.proofs.Ladders.{need-good, row-good, all_pass}

-- ---- row 1
pub record Frame (t : List ℕ) (l : Limits) : Type 0 where
  pub in_frame : framed t ≡ true
  pub version-one : version t ≡ 1
  pub some-nodes : 1 ≤ nodes t
  pub nodes_fit : nodes t ≤ l.most_nodes
  pub edges_fit : edges t ≤ l.most_edges
  pub all-of_it : length t ≡ edge_at t (edges t)

pub frame_facts : (t : List ℕ) (l : Limits) → frame_fine t l ≡ true → Frame t l
unfolding frame_fine
frame_facts t l h =
    let a = and-true (framed t && eqb (version t) 1 && within 1 l.most_nodes (nodes t) && leb (edges t) l.most_edges) _ h in
    let b = and-true (framed t && eqb (version t) 1 && within 1 l.most_nodes (nodes t)) _ a.0 in
    let c = and-true (framed t && eqb (version t) 1) _ b.0 in
    let d = and-true (framed t) _ c.0 in
    let n = and-true (leb 1 (nodes t)) _ c.1 in
    record {
      in_frame = d.0;
      version-one = eqb-true _ _ d.1;
      some-nodes = leb-true _ _ n.0;
      nodes_fit = leb-true _ _ n.1;
      edges_fit = leb-true _ _ b.1;
      all-of_it = eqb-true _ _ a.1;
    }

pub facts_frame : (t : List ℕ) (l : Limits) → Frame t l → frame_fine t l ≡ true
unfolding frame_fine
facts_frame t l f =
    let n : within 1 l.most_nodes (nodes t) ≡ true = and_both (leb 1 (nodes t)) _ (le-leb _ _ f.some-nodes) (le-leb _ _ f.nodes_fit) in
    rw (f.in_frame, eq-eqb (version t) 1 f.version-one, n, le-leb (edges t) l.most_edges f.edges_fit)
    (eq-eqb (length t) (edge_at t (edges t)) f.all-of_it)

-- ---- row 2: a node's fields
pub record NodeFields (t : List ℕ) (l : Limits) (i : ℕ) : Type 0 where
  pub kind-from : 1 ≤ kind t i
  pub kind_to : kind t i ≤ 13
  pub owner-fine : cond (is_pin (kind t i)) (ltb (owner t i) (nodes t) && is_action (kind t (owner t i))) (eqb (owner t i) 255) ≡ true
  pub upper-fine : cond (is_object_node (kind t i)) (within 1 l.most_upper (upper t i)) (eqb (upper t i) 0) ≡ true
  pub lower-fine : cond (is_input (kind t i)) (leb (lower t i) (upper t i)) (eqb (lower t i) 0) ≡ true

pub node_facts : (t : List ℕ) (l : Limits) (i : ℕ) → node_fine t l i ≡ true → NodeFields t l i
unfolding node_fine
node_facts t l i h =
    let u = cond (is_object_node (kind t i)) (within 1 l.most_upper (upper t i)) (eqb (upper t i) 0) in
    let o = cond (is_pin (kind t i)) (ltb (owner t i) (nodes t) && is_action (kind t (owner t i))) (eqb (owner t i) 255) in
    let a = and-true (within 1 13 (kind t i) && o && u) _ h in
    let b = and-true (within 1 13 (kind t i) && o) _ a.0 in
    let c = and-true (within 1 13 (kind t i)) _ b.0 in
    let k = and-true (leb 1 (kind t i)) _ c.0 in
    record { kind-from = leb-true _ _ k.0; kind_to = leb-true _ _ k.1; owner-fine = c.1; upper-fine = b.1; lower-fine = a.1 }

upper_most : (c : Bool) (most u : ℕ) → cond c (within 1 most u) (eqb u 0) ≡ true → u ≤ most
upper_most true most u h = leb-true u most (and-true (leb 1 u) _ h).1
upper_most false most u h = omega (arith, eqb-true u 0 h)

pub upper_fits : {t : List ℕ} {l : Limits} {i : ℕ} → NodeFields t l i → upper t i ≤ l.most_upper
upper_fits {t} {l} {i} f = upper_most (is_object_node (kind t i)) l.most_upper (upper t i) f.upper-fine

-- ---- row 3: an edge's fields, and its ends
pub record EdgeFields (t : List ℕ) (j : ℕ) : Type 0 where
  pub kind_fits : edge_kind t j ≤ 1
  pub source_fits : source t j < nodes t
  pub target_fits : target t j < nodes t
  pub guarded-fits : guarded t j ≤ 1
  pub may_leave_is : may_leave (is_object t j) (kind t (source t j)) ≡ true
  pub may-enter : may_enter (is_object t j) (kind t (target t j)) ≡ true

pub edge_facts : (t : List ℕ) (j : ℕ) → edge_fine t j ≡ true → EdgeFields t j
unfolding edge_fine
edge_facts t j h =
    let k = leb (edge_kind t j) 1 in
    let s = ltb (source t j) (nodes t) in
    let e = ltb (target t j) (nodes t) in
    let g = leb (guarded t j) 1 in
    let o = may_leave (is_object t j) (kind t (source t j)) in
    let p1 = and-true (k && s && e && g && o) _ h in
    let p2 = and-true (k && s && e && g) o p1.0 in
    let p3 = and-true (k && s && e) g p2.0 in
    let p4 = and-true (k && s) e p3.0 in
    let p5 = and-true k s p4.0 in
    record {
      kind_fits = leb-true _ _ p5.0;
      source_fits = ltb-true _ _ p5.1;
      target_fits = ltb-true _ _ p4.1;
      guarded-fits = leb-true _ _ p3.1;
      may_leave_is = p2.1;
      may-enter = p1.1;
    }

-- ---- row 4: the edges at a node, and the chains that end there
pub record Shape (t : List ℕ) (l : Limits) (i : ℕ) : Type 0 where
  pub degrees : degrees_fine t i ≡ true
  pub one-kind : one_kind t i ≡ true
  pub join : join_fine t i ≡ true
  pub action : action_fine t i ≡ true
  pub no_chain : chain t l.chain_too_long i ≡ false

pub shape_facts : (t : List ℕ) (l : Limits) (i : ℕ) → shape_fine t l i ≡ true → Shape t l i
unfolding shape_fine chain_fine
shape_facts t l i h =
    let r4 = and-true _ (chain_fine t l i) h in
    let r3 = and-true _ (action_fine t i) r4.0 in
    let r2 = and-true _ (join_fine t i) r3.0 in
    let r1 = and-true (degrees_fine t i) _ r2.0 in
    record { degrees = r1.0; one-kind = r1.1; join = r2.1; action = r3.1; no_chain = not-true (chain t l.chain_too_long i) r4.1 }

-- ---- rows 1 to 4
pub record GoodTable (t : List ℕ) (l : Limits) : Type 0 where
  pub frame : Frame t l
  pub node : (i : ℕ) → i < nodes t → NodeFields t l i
  pub edge : (j : ℕ) → j < edges t → EdgeFields t j
  pub shape : (i : ℕ) → i < nodes t → Shape t l i

pub table-good : (t : List ℕ) (l : Limits) → table_fine t l ≡ good tt → GoodTable t l
unfolding table_fine
table-good t l h =
    let r1 = need-good 1 (frame_fine t l) _ tt h in
    let r2 = row-good (refuse_if 2 (lowest (λ i. not (node_fine t l i)) (nodes t))) _ tt r1.1 in
    let r3 = row-good (refuse_if 3 (lowest (λ j. not (edge_fine t j)) (edges t))) _ tt r2.2 in
    record {
      frame = frame_facts t l r1.0;
      node = λ i k. node_facts t l i (all_pass 2 (node_fine t l) (nodes t) r2.1 i k);
      edge = λ j k. edge_facts t j (all_pass 3 (edge_fine t) (edges t) r3.1 j k);
      shape = λ i k. shape_facts t l i (all_pass 4 (shape_fine t l) (nodes t) r3.2 i k);
    }

-- no chain of the forbidden length ends at the source of an edge
pub source_no_chain : {t : List ℕ} {l : Limits} → GoodTable t l → (j : ℕ) → j < edges t → chain t l.chain_too_long (source t j) ≡ false
source_no_chain {t} g j k = (g.shape (source t j) (g.edge j k).source_fits).no_chain
