-- The fields of a marking's bytes: which stand there, that each stands once, and that they are read one after another. Assumes nothing.
use mathlib.Core.Path.{◌≡◌, refl, sym, ap, ◌∙◌}
use Prim.Native.Nat.{ℕ}
use mathlib.Core.Bool.{Bool, true, false, cond}
use mathlib.Core.Logic.{◌⊎◌, inl, inr, ⊎_elim}
use mathlib.Core.List.{List, [], ◌∷◌, ◌++◌}
use mathlib.Core.Option.{Option, none, some}
use lib.Dec.{ltb, eqb}
use borrow.Author.Tests.{ltb-true, lt-ltb, eqb-true, eq-eqb}
use Rattle.paper.specs.Lists.{below, keep, gather, each}
use Rattle.paper.specs.Bytes.{go_on}
use Rattle.paper.specs.Table.{nodes, edges, kind, is_action, is_object_node}
use Rattle.paper.specs.Marking.{Marking, Field, stockOf, runsOf, tokensOf, counted, node_fields, layout, field_read, fields_read, has_stock, has_runs, has_tokens}
use Rattle.paper.proofs.Bools.{never, and-true, and_both}
use Rattle.paper.proofs.Members.{In, here, in-none, in_one, append_left, append_right, in-append, keep_in, in_each, each_in, in_gather, gather_in, in_below, below_in}
use Rattle.paper.proofs.Members.{in_keep-below, Distinct, distinct_append, distinct-keep, distinct-each, distinct-gather, distinct-below}

-- whether the layout has a field
abbrev pub has_field : List ℕ → Field → Bool
has_field t (stockOf i) = has_stock t i
has_field t (runsOf i) = has_runs t i
has_field t (tokensOf j) = has_tokens t j

-- whether a field is of node i
abbrev pub of_node : ℕ → Field → Bool
of_node i (stockOf n) = eqb n i
of_node i (runsOf n) = eqb n i
of_node i (tokensOf j) = false

one-node : (i k : ℕ) (f : Field) → of_node i f ≡ true → of_node k f ≡ true → i ≡ k
one-node i k (stockOf n) h l = sym (eqb-true n i h) ∙ eqb-true n k l
one-node i k (runsOf n) h l = sym (eqb-true n i h) ∙ eqb-true n k l
one-node i k (tokensOf j) h l = never false h refl

-- an action is no object node
pub not_both : (k : ℕ) → is_action k ≡ true → is_object_node k ≡ false
not_both k h = ap is_object_node (eqb-true k 2 h)

module _ (t : List ℕ) where
  abbrev node_part : List Field
  node_part = gather (node_fields t) (below (nodes t))

  abbrev edge_part : List Field
  edge_part = each tokensOf (keep (counted t) (below (edges t)))

  -- ---- a node's fields: a stock, a running byte or nothing
  node-field : (i : ℕ) {f : Field} → In f (node_fields t i)
      → ((f ≡ stockOf i) × (is_object_node (kind t i) ≡ true)) ⊎ ((f ≡ runsOf i) × (is_action (kind t i) ≡ true))
  node-field i {f} = by (is_object_node (kind t i)) (is_action (kind t i))
    where
      by : (o a : Bool) → In f (cond o (stockOf i ∷ []) (cond a (runsOf i ∷ []) [])) → ((f ≡ stockOf i) × (o ≡ true)) ⊎ ((f ≡ runsOf i) × (a ≡ true))
      by true a m = inl (in_one m, refl)
      by false true m = inr (in_one m, refl)
      by false false m = absurd (in-none m)

  pub node-once : (i : ℕ) → Distinct (node_fields t i)
  node-once i = by (is_object_node (kind t i)) (is_action (kind t i))
    where
      by : (o a : Bool) → Distinct (cond o (stockOf i ∷ []) (cond a (runsOf i ∷ []) []))
      by true a = (λ m. in-none m, tt)
      by false true = (λ m. in-none m, tt)
      by false false = tt

  node_of : (i : ℕ) {f : Field} → In f (node_fields t i) → of_node i f ≡ true
  node_of i m =
      let s = eq-eqb i i refl in
      ⊎_elim (λ e. ap (of_node i) e.0 ∙ s) (λ e. ap (of_node i) e.0 ∙ s) (node-field i m)

  -- a field of node i is none of another node, nor of an edge
  pub node-only : (i : ℕ) (f : Field) → of_node i f ≡ false → In f (node_fields t i) → ⊥
  node-only i f n m = never (of_node i f) (node_of i m) n

  -- ---- the whole layout
  pub in_layout : (f : Field) → has_field t f ≡ true → In f (layout t)
  unfolding layout
  in_layout (stockOf i) h =
      let p = and-true (ltb i (nodes t)) _ h in
      append_left edge_part (gather_in (node_fields t) (below_in (nodes t) (ltb-true _ _ p.0)) (rw p.1 (here refl)))
  in_layout (runsOf i) h =
      let p = and-true (ltb i (nodes t)) _ h in
      append_left edge_part (gather_in (node_fields t) (below_in (nodes t) (ltb-true _ _ p.0)) (rw (not_both (kind t i) p.1, p.1) (here refl)))
  in_layout (tokensOf j) h =
      let p = and-true (ltb j (edges t)) _ h in
      append_right node_part (each_in tokensOf (keep_in (counted t) (below_in (edges t) (ltb-true _ _ p.0)) p.1))

  node-part : (f : Field) → In f node_part → has_field t f ≡ true
  node-part f m =
      let r = in_gather (node_fields t) (below (nodes t)) m in
      let i = r.0 in
      let l = lt-ltb i (nodes t) (in_below (nodes t) r.1) in
      ⊎_elim (λ e. ap (has_field t) e.0 ∙ and_both (ltb i (nodes t)) _ l e.1)
      (λ e. ap (has_field t) e.0 ∙ and_both (ltb i (nodes t)) _ l e.1) (node-field i r.2)

  edge-part : (f : Field) → In f edge_part → has_field t f ≡ true
  edge-part f m =
      let r = in_each tokensOf (keep (counted t) (below (edges t))) m in
      let k = in_keep-below (counted t) (edges t) r.1 in
      ap (has_field t) r.2 ∙ and_both (ltb r.0 (edges t)) _ (lt-ltb r.0 (edges t) k.0) k.1

  pub layout_in : (f : Field) → In f (layout t) → has_field t f ≡ true
  unfolding layout
  layout_in f m = ⊎_elim (node-part f) (edge-part f) (in-append node_part m)

  apart : (f : Field) → In f node_part → In f edge_part → ⊥
  apart f m n =
      let r = in_gather (node_fields t) (below (nodes t)) m in
      let k = in_each tokensOf (keep (counted t) (below (edges t))) n in
      node-only r.0 f (ap (of_node r.0) k.2) r.2

  tokens-one : (i k : ℕ) → tokensOf i ≡ tokensOf k → i ≡ k
  tokens-one i k e = cc

  -- no field stands twice
  pub layout-once : Distinct (layout t)
  unfolding layout
  layout-once =
      distinct_append node_part edge_part
      (distinct-gather (node_fields t) node-once (λ i k f m n. one-node i k f (node_of i m) (node_of k n)) (below (nodes t)) (distinct-below (nodes t)))
      (distinct-each tokensOf tokens-one (keep (counted t) (below (edges t))) (distinct-keep (counted t) (below (edges t)) (distinct-below (edges t)))) apart

  -- ---- reading: fields one after another
  pub fields_append : (fs gs : List Field) (a : Marking) (b : List ℕ) → fields_read t (fs ++ gs) a b ≡ go_on (fields_read t fs a b) (fields_read t gs)
  fields_append [] gs a b = refl
  fields_append (f ∷ fs) gs a b = by (field_read t a f b) (fields_append fs gs)
    where
      by : (o : Option (Marking × List ℕ)) → ((m : Marking) (c : List ℕ) → fields_read t (fs ++ gs) m c ≡ go_on (fields_read t fs m c) (fields_read t gs))
          → go_on o (fields_read t (fs ++ gs)) ≡ go_on (go_on o (fields_read t fs)) (fields_read t gs)
      by none h = refl
      by (some x) h = h x.0 x.1
