-- `write_paths` stores the paths of an end as one run. The invariant: those passed are stored, and the next starts where they end. Assumes nothing.
use Prim.Native.Nat.{ℕ, ◌+◌, ◌≤◌, ◌<◌}
use mathlib.Core.Path.{◌≡◌, ap, ◌∙◌}
use native.Mathlib.Omega.{arith}
use lib.ListN.{length}
use Rattle.paper.specs.Lists.{at}
use Rattle.paper.specs.Limits.{limits}
use Rattle.wire.proofs.Runs.{total-more, total-room, run_more}
use Rattle.ends_paths.specs.Blocks.{first_block}
use Rattle.sheet_write.specs.Listing.{path_shown, path_of, path_takes}
use Rattle.wire.specs.Totals.{total}
use borrow.Author.Rules.{rules}
use Rattle.sheet_write.proofs.Laws.{length-path}
use Rattle.sheet_write.proofs.write_paths.Goals as goal

pub write_path-to-requires : goal.write_path-to-requires
write_path-to-requires c = let a = c.args in
    let p = c.requires in
    let l = c.loop-j in
    let e = c.wide.ensures.0 in
    let w : c.wide.result ≡ at a.order.now (first_block a.k + l.j) = e in
    let s : at a.lens.now c.wide.result ≤ limits.longest_path = rw w (p.2 l.j (omega arith)) in
    let z : at a.lens.now c.wide.result ≡ at a.lens.now (at a.order.now (first_block a.k + l.j)) = ap (at a.lens.now) w in
    ((omega (arith, p.1 l.j (omega arith), p.3), s), omega (arith, p.1 l.j (omega arith), p.4), omega (arith, total-room (path_takes a.order.now a.lens.now a.k) l.j a.m (omega arith)))

pub loop-j-preserved : goal.loop-j-preserved
loop-j-preserved c = let a = c.args in
    let p = c.requires in
    let l = c.loop-j in
    let w = c.write_path-to in
    let d = c.wide in
    let block : ℕ → ℕ = λ i. at a.order.now (first_block a.k + i) in
    let q : d.result ≡ block l.j = d.ensures.0 in
    let z : at a.lens.now d.result ≡ at a.lens.now (block l.j) = ap (at a.lens.now) q in
    let long : (i : ℕ) → i < l.j → length (path_shown a.lens.now a.cells.now (block i)) ≡ 1 + at a.lens.now (block i) =
    λ i h. length-path a.lens.now a.cells.now (block i) (p.2 i (omega arith)) (omega (arith, p.1 i (omega arith), p.4)) in (
      omega (arith, total-more (path_takes a.order.now a.lens.now a.k) l.j),
      w.ensures.1
          ∙ rw (l.invariant.1, q) (run_more (path_of a.order.now a.lens.now a.cells.now a.k) (path_takes a.order.now a.lens.now a.k) a.out.now
          a.start l.to l.j long l.invariant.0),
    )

pub loop-j-init : goal.loop-j-init
unfolding total
loop-j-init c = search rules
