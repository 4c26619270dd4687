-- `tally` counts each edge at both ends. Assumes nothing.
use mathlib.Core.Path.{◌≡◌, ◌∙◌, ap}
use Prim.Native.Nat.{◌+◌, ◌*◌, ℕ}
use native.Mathlib.Omega.{arith}
use borrow.Author.Rules.{rules}
use Rattle.paper.specs.Lists.{below, count}
use Rattle.paper.specs.Table.{edges}
use Rattle.paper.proofs.Counts.{count_most}
use Rattle.paper.proofs.Tables.{edge_facts}
use Rattle.table_shape.proofs.Laws.{bumped_most, hits, bumped_more, tallied}
use Rattle.table_shape.proofs.tally.Goals as goal

pub bump-requires : goal.bump-requires
bump-requires c =
    let l = c.loop-j in
    let t = c.args.s.now in
    let f = edge_facts t l.j (c.requires.1 l.j (omega (arith, c.requires.0.edges-read))) in
    let a = 4 * c.target.result + c.edge_kind-k.result in
    (omega arith, omega (arith, l.invariant.1 a, count_most (hits t a) l.j))

pub bump-requires-in-loop-j : goal.bump-requires-in-loop-j
bump-requires-in-loop-j c =
    let l = c.loop-j in
    let t = c.args.s.now in
    let f = edge_facts t l.j (c.requires.1 l.j (omega (arith, c.requires.0.edges-read))) in
    let a = 4 * c.target.result + c.edge_kind-k.result in
    let b = 4 * c.source.result + 2 + c.edge_kind-k.result in
    let n = l.invariant.1 b in
    let m = count_most (hits t b) l.j in
    let u = bumped_most l.cells _ a b l.j c.bump.ensures (omega arith) (omega arith) in
    (omega arith, omega arith)

pub loop-j-preserved : goal.loop-j-preserved
loop-j-preserved c =
    let l = c.loop-j in
    let t = c.args.s.now in
    let f = edge_facts t l.j (c.requires.1 l.j (omega (arith, c.requires.0.edges-read))) in
    let a = 4 * c.target.result + c.edge_kind-k.result in
    let b = 4 * c.source.result + 2 + c.edge_kind-k.result in (
      search rules,
      bumped_more t l.cells _ _ l.j a b c.bump.ensures c.bump-in-loop-j.ensures
          (omega arith) (omega arith) f.kind_fits (omega arith) (omega arith) l.invariant.1,
    )

pub returns : goal.returns
returns c =
    let l = c.loop-j in
    let t = c.args.s.now in
    let e : l.j ≡ edges t = omega (arith, c.requires.0.edges-read) in
    tallied t l.cells (λ x. l.invariant.1 x ∙ ap (λ (n : ℕ). count (hits t x) (below n)) e) (λ j u. edge_facts t j (c.requires.1 j u))
