-- A table has one encoding: its nodes and edges determine its bytes, and reading gives them back. Assumes nothing.
use mathlib.Core.Path.{◌≡◌, refl, sym, ap, ap₂, ◌∙◌}
use Prim.Native.Nat.{ℕ, zero, suc, ◌+◌, ◌*◌, ◌≤◌, ◌<◌}
use native.Mathlib.Omega.{arith}
use native.Mathlib.Nat.{add-zero}
use mathlib.Core.Bool.{true}
use mathlib.Core.List.{List, [], ◌∷◌, ◌++◌, append-nil}
use lib.ListN.{length, get_or, drop, drop_of_length-le, length-append}
use lib.Seq.{drop-cons, get_or-append-add}
use Rattle.paper.specs.Lists.{at, from, below, each, gather}
use Rattle.paper.specs.Bytes.{two, sized, framed}
use Rattle.paper.specs.Limits.{Limits}
use Rattle.paper.specs.Table.{header, version, nodes, edges, node_at, edge_at, kind, owner, lower, upper, edge_kind, source, target, guarded, frame_fine}
use Rattle.paper.proofs.Members.{In}
use Rattle.paper.proofs.Lengths.{gather-each, gather-at, length-gather, length-each, length_from, each_below, drop-four}
use Rattle.paper.proofs.Bounds.{under_cons, under_append, under-gather}
use Rattle.paper.proofs.Bytes.{Bytes, sized-framed, framed-sized, sized-bytes}
use Rattle.paper.proofs.Tables.{frame_facts, facts_frame}

-- "Node: kind, owner, lower, upper."
pub record Node : Type 0 where
  pub node_kind : ℕ
  pub node_owner : ℕ
  pub node_lower : ℕ
  pub node_upper : ℕ

-- "Edge: kind (0 control, 1 object), source, target, guarded (0 or 1)."
pub record Edge : Type 0 where
  pub flow_kind : ℕ
  pub flow_source : ℕ
  pub flow_target : ℕ
  pub flow_guarded : ℕ

abbrev pub node_bytes : Node → List ℕ
node_bytes n = n.node_kind ∷ n.node_owner ∷ n.node_lower ∷ n.node_upper ∷ []

abbrev pub edge_bytes : Edge → List ℕ
edge_bytes e = e.flow_kind ∷ e.flow_source ∷ e.flow_target ∷ e.flow_guarded ∷ []

-- what stands past the end of a list
no_node : Node
no_node = record { node_kind = 0; node_owner = 0; node_lower = 0; node_upper = 0 }

no_edge : Edge
no_edge = record { flow_kind = 0; flow_source = 0; flow_target = 0; flow_guarded = 0 }

-- "version 1, node count n (..), edge count e (..), n nodes of 4 bytes, e edges of 4 bytes."
unfoldable pub table_of : List Node → List Edge → List ℕ
table_of ns es = sized (1 ∷ length ns ∷ length es ∷ gather node_bytes ns ++ gather edge_bytes es)

abbrev pub node_in : List ℕ → ℕ → Node
node_in t i = record { node_kind = kind t i; node_owner = owner t i; node_lower = lower t i; node_upper = upper t i }

abbrev pub edge_in : List ℕ → ℕ → Edge
edge_in t j = record { flow_kind = edge_kind t j; flow_source = source t j; flow_target = target t j; flow_guarded = guarded t j }

unfoldable pub nodes_in : List ℕ → List Node
nodes_in t = each (node_in t) (below (nodes t))

unfoldable pub edges_in : List ℕ → List Edge
edges_in t = each (edge_in t) (below (edges t))

-- ---- bytes, nodes and edges, bytes
-- n records of four bytes, from record i on, and what is behind them
four_at : List ℕ → ℕ → List ℕ
four_at b o = at b o ∷ at b (o + 1) ∷ at b (o + 2) ∷ at b (o + 3) ∷ []

fours : (b : List ℕ) (o n i : ℕ) → o + 4 * (i + n) ≤ length b
    → gather (λ k. four_at b (o + 4 * k)) (from i n) ++ drop (o + 4 * (i + n)) b ≡ drop (o + 4 * i) b
unfolding four_at
fours b o zero i h = let e : i + 0 ≡ i = omega arith in rw e
fours b o (suc n) i h =
    let e : i + suc n ≡ suc i + n = omega arith in
    let f : o + 4 * suc i ≡ o + 4 * i + 4 = omega arith in
    rw (e, drop-four b (o + 4 * i) (omega arith), ← f) (ap (λ (l : List ℕ). four_at b (o + 4 * i) ++ l) (fours b o n (suc i) (omega arith)))

fours_below : (b : List ℕ) (o n : ℕ) → o + 4 * n ≤ length b → gather (λ k. four_at b (o + 4 * k)) (below n) ++ drop (o + 4 * n) b ≡ drop o b
fours_below b o n h =
    let e : 0 + n ≡ n = omega arith in
    let f : o + 4 * 0 ≡ o = omega arith in
    rw (e, f) at (fours b o n 0 (omega arith))

module _ (t : List ℕ) where
  pub length_nodes_in : length (nodes_in t) ≡ nodes t
  unfolding nodes_in
  length_nodes_in = length-each (node_in t) (below (nodes t)) ∙ length_from 0 (nodes t)

  pub length_edges_in : length (edges_in t) ≡ edges t
  unfolding edges_in
  length_edges_in = length-each (edge_in t) (below (edges t)) ∙ length_from 0 (edges t)

  nodes-part : node_at t (nodes t) ≤ length t → gather node_bytes (nodes_in t) ++ drop (node_at t (nodes t)) t ≡ drop (header t) t
  unfolding nodes_in four_at kind owner lower upper
  nodes-part h = rw (gather-each node_bytes (node_in t) (below (nodes t))) (fours_below t (header t) (nodes t) h)

  edges-part : length t ≡ edge_at t (edges t) → gather edge_bytes (edges_in t) ≡ drop (node_at t (nodes t)) t
  unfolding edges_in four_at edge_kind source target guarded
  edges-part h =
      let z : drop (edge_at t (edges t)) t ≡ [] = drop_of_length-le t {i = edge_at t (edges t)} (omega arith) in
      gather-each edge_bytes (edge_in t) (below (edges t)) ∙ (rw (z, append-nil) at (fours_below t (node_at t (nodes t)) (edges t) (omega arith)))

  front-part : header t ≤ length t → t ≡ at t 0 ∷ at t 1 ∷ at t 2 ∷ at t 3 ∷ at t 4 ∷ drop (header t) t
  front-part h = drop-four t 0 (omega arith) ∙ ap (λ (l : List ℕ). at t 0 ∷ at t 1 ∷ at t 2 ∷ at t 3 ∷ l) (drop-cons t 4 0 (omega arith))

  -- the nodes and edges read from good bytes give the bytes back
  pub table_is : (l : Limits) → Bytes t → frame_fine t l ≡ true → table_of (nodes_in t) (edges_in t) ≡ t
  unfolding table_of version nodes edges
  table_is l u h =
      let f = frame_facts t l h in
      let b = gather node_bytes (nodes_in t) ++ gather edge_bytes (edges_in t) in
      let c : List ℕ = 1 ∷ at t 3 ∷ at t 4 ∷ b in
      let p : drop (header t) t ≡ b = sym (ap (λ (x : List ℕ). gather node_bytes (nodes_in t) ++ x) (edges-part f.all-of_it) ∙ nodes-part (omega arith)) in
      let q : t ≡ at t 0 ∷ at t 1 ∷ c = front-part (omega arith) ∙ (λ i. at t 0 ∷ at t 1 ∷ f.version-one i ∷ at t 3 ∷ at t 4 ∷ p i) in
      let r : sized c ≡ at t 0 ∷ at t 1 ∷ c = sized-framed (at t 0) (at t 1) c (u 0) (u 1) (ap framed (sym q) ∙ f.in_frame) in
      (λ i. sized (1 ∷ length_nodes_in i ∷ length_edges_in i ∷ b)) ∙ r ∙ sym q

-- two good tables with the same nodes and edges are the same bytes
pub one_table : (t s : List ℕ) (l k : Limits) → Bytes t → Bytes s → frame_fine t l ≡ true → frame_fine s k ≡ true
    → nodes_in t ≡ nodes_in s → edges_in t ≡ edges_in s → t ≡ s
one_table t s l k u v f g p q = sym (table_is t l u f) ∙ ap₂ table_of p q ∙ table_is s k v g

-- ---- nodes and edges, bytes, nodes and edges
four_are : (b : List ℕ) (o : ℕ) (w : List ℕ) → ((r : ℕ) → r < 4 → at b (o + r) ≡ at w r)
    → (at b o ≡ at w 0) × (at b (o + 1) ≡ at w 1) × (at b (o + 2) ≡ at w 2) × (at b (o + 3) ≡ at w 3)
four_are b o w h = (rw add-zero at (h 0 (omega arith)), h 1 (omega arith), h 2 (omega arith), h 3 (omega arith))

module _ (ns : List Node) (es : List Edge) where
  abbrev body : List ℕ
  body = gather node_bytes ns ++ gather edge_bytes es

  pub nodes-of : nodes (table_of ns es) ≡ length ns
  unfolding table_of nodes
  nodes-of = refl

  pub edges-of : edges (table_of ns es) ≡ length es
  unfolding table_of edges
  edges-of = refl

  -- behind the header
  body_at : (k : ℕ) → at (table_of ns es) (5 + k) ≡ at body k
  unfolding table_of
  body_at k = get_or-append-add (two (length (1 ∷ length ns ∷ length es ∷ body)) ++ (1 ∷ length ns ∷ length es ∷ [])) body k 0

  node_cell : (i r : ℕ) → i < length ns → r < 4 → at (table_of ns es) (5 + 4 * i + r) ≡ at (node_bytes (get_or ns i no_node)) r
  node_cell i r h k =
      let e : 5 + 4 * i + r ≡ 5 + (4 * i + r) = omega arith in
      rw e (body_at (4 * i + r) ∙ gather-at node_bytes 4 (λ n. refl) no_node 0 ns (gather edge_bytes es) i r h k)

  edge-at : (j r : ℕ) → j < length es → r < 4 → at (table_of ns es) (edge_at (table_of ns es) j + r) ≡ at (edge_bytes (get_or es j no_edge)) r
  edge-at j r h k =
      let n = length-gather node_bytes 4 (λ n. refl) ns in
      let o : ℕ = 4 * j + r in
      let e : edge_at (table_of ns es) j + r ≡ 5 + (length (gather node_bytes ns) + o) = omega (arith, nodes-of) in
      let f : at (gather edge_bytes es) o ≡ at (edge_bytes (get_or es j no_edge)) r = rw append-nil at (gather-at edge_bytes 4 (λ n. refl) no_edge 0 es [] j r h k) in
      rw e (body_at (length (gather node_bytes ns) + o) ∙ get_or-append-add (gather node_bytes ns) (gather edge_bytes es) o 0 ∙ f)

  node_back : (i : ℕ) → i < length ns → node_in (table_of ns es) i ≡ get_or ns i no_node
  unfolding kind owner lower upper
  node_back i h =
      let e = four_are (table_of ns es) (5 + 4 * i) (node_bytes (get_or ns i no_node)) (λ r. node_cell i r h) in
      λ k. record { node_kind = e.0 k; node_owner = e.1 k; node_lower = e.2 k; node_upper = e.3 k }

  edge_back : (j : ℕ) → j < length es → edge_in (table_of ns es) j ≡ get_or es j no_edge
  unfolding edge_kind source target guarded
  edge_back j h =
      let e = four_are (table_of ns es) (edge_at (table_of ns es) j) (edge_bytes (get_or es j no_edge)) (λ r. edge-at j r h) in
      λ k. record { flow_kind = e.0 k; flow_source = e.1 k; flow_target = e.2 k; flow_guarded = e.3 k }

  -- the nodes and edges written are those read
  pub table_reads_back : (nodes_in (table_of ns es) ≡ ns) × (edges_in (table_of ns es) ≡ es)
  unfolding nodes_in edges_in
  table_reads_back =
      (rw nodes-of (each_below no_node (node_in (table_of ns es)) ns node_back), rw edges-of (each_below no_edge (edge_in (table_of ns es)) es edge_back))

  body_length : length body ≡ 4 * length ns + 4 * length es
  body_length =
      length-append (gather node_bytes ns) (gather edge_bytes es) ∙ ap₂ ◌+◌ (length-gather node_bytes 4 (λ n. refl) ns) (length-gather edge_bytes 4 (λ e. refl) es)

  -- with counts within the limits it is a good frame
  pub table_frame : (l : Limits) → 1 ≤ length ns → length ns ≤ l.most_nodes → length es ≤ l.most_edges → 3 + 4 * length ns + 4 * length es < 65536
      → frame_fine (table_of ns es) l ≡ true
  unfolding version nodes edges table_of
  table_frame l a b c d =
      let n = body_length in
      facts_frame (table_of ns es) l record {
        in_frame = framed-sized (1 ∷ length ns ∷ length es ∷ body) (omega arith);
        version-one = refl;
        some-nodes = a;
        nodes_fit = b;
        edges_fit = c;
        all-of_it = omega arith;
      }

  -- and it is bytes, if its nodes and edges are
  pub table-bytes : ((n : Node) → In n ns → Bytes (node_bytes n)) → ((e : Edge) → In e es → Bytes (edge_bytes e))
      → length ns < 256 → length es < 256 → Bytes (table_of ns es)
  unfolding table_of
  table-bytes p q a b =
      let v : Bytes (gather node_bytes ns) = under-gather 256 node_bytes ns (omega arith) p in
      let w : Bytes (gather edge_bytes es) = under-gather 256 edge_bytes es (omega arith) q in
      let u : Bytes body = under_append 256 (gather node_bytes ns) (gather edge_bytes es) v w in
      sized-bytes (1 ∷ length ns ∷ length es ∷ body)
      (under_cons 256 1 (length ns ∷ length es ∷ body) (omega arith) (under_cons 256 (length ns) (length es ∷ body) a (under_cons 256 (length es) body b u)))
