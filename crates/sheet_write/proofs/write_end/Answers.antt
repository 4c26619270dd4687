-- `write_end` stores what stands before the paths, and the paths behind it. Assumes nothing.
use Prim.Native.Nat.{◌<◌}
use mathlib.Core.Path.{◌≡◌, ap, ◌∙◌}
use native.Mathlib.Omega.{arith}
use Rattle.paper.specs.Lists.{at}
use Rattle.paper.specs.Limits.{limits}
use Rattle.sheet_write.specs.Listing.{many, end_takes}
use Rattle.sheet_write.proofs.Laws.{end_takes_more, end-written}
use Rattle.sheet_write.proofs.write_end.Goals as goal

pub write_front-requires : goal.write_front-requires
unfolding end_takes
write_front-requires c =
    let inside : c.wide-i.result < limits.most_offers =
    omega (arith, c.requires.0.measured.inside c.args.k c.requires.1, c.wide-i.ensures.0) in
    let p = c.requires in ((inside, p.0.measured.rows-there), omega (arith, p.2))

pub write_paths-requires : goal.write_paths-requires
write_paths-requires c = let p = c.requires in
    let a = c.args in
    let m = p.0.measured in
    let i = c.wide-i.ensures.0 in
    let e : c.paths_of.result ≡ many a.rows.now (at a.ends.now a.k) = c.paths_of.ensures.0 ∙ ap (many a.rows.now) i in (
      (omega (arith, p.1, m.few, m.orders, c.paths_of.ensures.1), c.paths_of.ensures.1),
      λ j l. m.blocks a.k j p.1 (omega (arith, e, l)),
      λ j l. m.short a.k j p.1 (omega (arith, e, l)),
      m.lengths,
      p.0.cells-there,
      omega (arith, p.2, end_takes_more p.0 a.to a.k i c.paths_of.ensures.0, c.write_front.auto),
    )

pub returns : goal.returns
returns c = let p = c.requires in
    let a = c.args in
    let i = c.wide-i.ensures.0 in
    let m = c.paths_of.ensures.0 in
    let r = c.write_paths.ensures in
    (r.0 ∙ end_takes_more p.0 a.to a.k i m, r.1 ∙ end-written p.0 a.to a.k i m a.out.now c.write_front.ensures)
