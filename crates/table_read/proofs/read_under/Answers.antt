-- `read_under` is the ladder of rows 1 to 4, and hands each row what the rows above it settled. Assumes nothing.
use mathlib.Core.Path.{◌≡◌, ◌∙◌, sym, ap}
use mathlib.Core.Bool.{true, not}
use mathlib.Core.Option.{none}
use native.Mathlib.Omega.{arith}
use Rattle.paper.specs.Answers.{good}
use Rattle.paper.specs.Lists.{lowest}
use Rattle.paper.specs.Limits.{limits}
use Rattle.paper.specs.Table.{nodes, edges, frame_fine, node_fine, edge_fine, shape_fine}
use Rattle.paper.proofs.Tables.{frame_facts}
use Rattle.wire.specs.Refusals.{found}
use Rattle.table.specs.Reading.{under, Spans}
use Rattle.table_read.proofs.Laws.{row_1, row_2, row_3, row_4, no_row, counted, all_pass, found_below}
use Rattle.table_read.proofs.read_under.Goals as goal
use Rattle.table_read.proofs.read_under.Goals.{Else-not-frame_fine, After-counts-table, In_default, In_default-bad_edge}

pub returns-then-not-frame_fine : goal.returns-then-not-frame_fine
returns-then-not-frame_fine c = row_1 _ _ (sym c.frame_fine.ensures ∙ c.if-not-frame_fine.true)

-- past row 1
module _ (c : Else-not-frame_fine) where
  frame : frame_fine c.args.s.now (under c.args.most) ≡ true
  frame = sym c.frame_fine.ensures ∙ c.if-not-frame_fine.false

module _ (c : After-counts-table) where
  spans : Spans c.args.s.now c.counts-table.result
  spans =
      let f = frame_facts c.args.s.now (under c.args.most) (sym c.frame_fine.ensures ∙ c.if-not-frame_fine.false) in
      record {
        nodes-read = c.counts-table.ensures.0;
        edges-read = c.counts-table.ensures.1;
        few-nodes = omega (arith, f.nodes_fit, c.requires.nodes_hold);
        few-edges = omega (arith, f.edges_fit, c.requires.edges_hold);
        whole = f.all-of_it;
      }

-- past row 2, and past row 3
module _ (c : In_default) where
  nodes-pass : lowest (λ k. not (node_fine c.args.s.now limits k)) (nodes c.args.s.now) ≡ none
  nodes-pass = sym c.bad_node.ensures ∙ ap found c.in_default.is

module _ (c : In_default-bad_edge) where
  edges-pass : lowest (λ k. not (edge_fine c.args.s.now k)) (edges c.args.s.now) ≡ none
  edges-pass = sym c.bad_edge.ensures ∙ ap found c.in_default-bad_edge.is

pub counts-table-requires : goal.counts-table-requires
counts-table-requires c = let f = frame_facts c.args.s.now (under c.args.most) (frame (goal.at.counts-table-requires c).Else-not-frame_fine) in omega arith

pub bad_node-requires : goal.bad_node-requires
bad_node-requires c = spans (goal.at.bad_node-requires c).After-counts-table

pub overflow_cast-result : goal.overflow_cast-result
overflow_cast-result c =
    let f = spans (goal.at.overflow_cast-result c).After-counts-table in
    let t = c.args.s.now in
    let b = found_below (λ k. not (node_fine t limits k)) (nodes t) _ (sym c.bad_node.ensures ∙ ap found c.in-Some.is) in
    omega (arith, f.few-nodes)

pub returns-in-Some : goal.returns-in-Some
returns-in-Some c = row_2 _ _ (frame (goal.at.returns-in-Some c).Else-not-frame_fine) _ (sym c.bad_node.ensures ∙ ap found c.in-Some.is)

pub bad_edge-requires : goal.bad_edge-requires
bad_edge-requires c = spans (goal.at.bad_edge-requires c).After-counts-table

pub overflow_cast-result-in-Some-bad_edge : goal.overflow_cast-result-in-Some-bad_edge
overflow_cast-result-in-Some-bad_edge c =
    let f = spans (goal.at.overflow_cast-result-in-Some-bad_edge c).After-counts-table in
    let t = c.args.s.now in
    let b = found_below (λ k. not (edge_fine t k)) (edges t) _ (sym c.bad_edge.ensures ∙ ap found c.in-Some-bad_edge.is) in
    omega (arith, f.few-edges)

pub returns-in-Some-bad_edge : goal.returns-in-Some-bad_edge
returns-in-Some-bad_edge c =
    let p = goal.at.returns-in-Some-bad_edge c in
    row_3 _ _ (frame p.Else-not-frame_fine) (nodes-pass p.In_default) _ (sym c.bad_edge.ensures ∙ ap found c.in-Some-bad_edge.is)

pub bad_shape-requires : goal.bad_shape-requires
bad_shape-requires c =
    let p = goal.at.bad_shape-requires c in
    (spans p.After-counts-table, all_pass _ _ (nodes-pass p.In_default), all_pass _ _ (edges-pass p.In_default-bad_edge))

pub overflow_cast-result-in-Some-bad_shape : goal.overflow_cast-result-in-Some-bad_shape
overflow_cast-result-in-Some-bad_shape c =
    let f = spans (goal.at.overflow_cast-result-in-Some-bad_shape c).After-counts-table in
    let t = c.args.s.now in
    let b = found_below (λ k. not (shape_fine t limits k)) (nodes t) _ (sym c.bad_shape.ensures ∙ ap found c.in-Some-bad_shape.is) in
    omega (arith, f.few-nodes)

pub returns-in-Some-bad_shape : goal.returns-in-Some-bad_shape
returns-in-Some-bad_shape c =
    let p = goal.at.returns-in-Some-bad_shape c in
    row_4 _ _ (frame p.Else-not-frame_fine) (nodes-pass p.In_default) (edges-pass p.In_default-bad_edge) _ (sym c.bad_shape.ensures ∙ ap found c.in-Some-bad_shape.is)

pub returns : goal.returns
returns c =
    let p = goal.at.returns c in
    let n = c.counts-table.ensures in
    ap good (counted _ _ _ n.0 n.1)
    ∙ no_row _ _ (frame p.Else-not-frame_fine) (nodes-pass p.In_default) (edges-pass p.In_default-bad_edge) (sym c.bad_shape.ensures ∙ ap found c.in_default-bad_shape.is)
