-- `offers_over::extend` meets its contract: the row to come goes on from the paths of row i, and is pushed. Assumes nothing.
use mathlib.Core.Path.{◌≡◌, refl, sym, ◌∙◌}
use Prim.Native.Nat.{◌≤◌, ◌<◌}
use native.Mathlib.Omega.{arith}
use Rattle.std.proofs.Common.{[]}
use lib.ListN.{length}
use borrow.Author.Rules.{rules}
use Rattle.paper.specs.Offers.{over, paths}
use Rattle.paper.specs.Limits.{limits}
use Rattle.offers.specs.Sets.{nth}
use Rattle.offers.specs.Rows.{rows_in, cell}
use Rattle.offers.proofs.Cells.{most_under}
use Rattle.offers.proofs.Rows.{led_holds, leads-more, leads_nil}
use Rattle.offers_over.proofs.Outcomes.{one_ready}
use Rattle.offers_over.proofs.extend.Goals as goal

pub returns : goal.returns
returns c = λ t ts b fr y.
    let a = c.args in
    let p = c.paths_of-p in
    let g = c.lead in
    let m = g.new.rows in
    let l : a.i < length ts = omega (arith, b.count-is, c.requires.0.0) in
    let few : cell a.rows.now a.i 4 ≤ limits.most_paths = omega (arith, (b.rows a.i l).paths-are, (b.rows a.i l).few) in
    let n : p.result ≡ length (paths (nth ts a.i)) = p.ensures.0 ∙ sym (most_under (cell a.rows.now a.i 4) few) ∙ (b.rows a.i l).paths-are in
    let h = led_holds t a.rows.now m a.count 0 a.i p.result ts b g.ensures in
    let ld = leads-more t a.rows.now m a.count 0 a.i p.result ts b g.ensures [] refl n l (leads_nil (rows_in a.rows.now a.count)) in
    c.grow.ensures t ts (over (nth ts a.i) a.onto.edge) h
    (one_ready t (rows_in m a.count) ts a.i a.onto l h fr y (search rules) (search rules) ld p.result c.bit_of.result
    (n ∙ sym (h.rows a.i l).paths-are) c.bit_of.ensures)
