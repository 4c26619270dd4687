-- `ends_masks::words_of` meets its contract: the loop has taken the cells of the ends below k. Assumes nothing.
use mathlib.Core.Path.{refl, ap}
use Prim.Native.Nat.{◌<◌}
use native.Mathlib.Omega.{arith}
use lib.ListN.{length}
use borrow.Author.Rules.{rules}
use Rattle.paper.specs.Lists.{at}
use Rattle.offers.specs.Rows.{cell}
use Rattle.ends_masks.proofs.Masks.{column_more}
use Rattle.ends_masks.proofs.words_of.Goals as goal

pub loop-k-init : goal.loop-k-init
loop-k-init c = (refl, λ j l. absurd (omega arith))

pub overflow_mul-to : goal.overflow_mul-to
overflow_mul-to c = let i = c.requires.0.each-inside c.loop-k.k c.loop-k-test.true in omega (arith, c.wide.ensures.0)

pub overflow_add-to : goal.overflow_add-to
overflow_add-to c = let i = c.requires.0.each-inside c.loop-k.k c.loop-k-test.true in omega (arith, c.wide.ensures.0)

pub offset_bounds-rows-wide : goal.offset_bounds-rows-wide
offset_bounds-rows-wide c = let i = c.requires.0.each-inside c.loop-k.k c.loop-k-test.true in omega (arith, c.wide.ensures.0)

pub bounds-rows-wide : goal.bounds-rows-wide
bounds-rows-wide c = let i = c.requires.0.each-inside c.loop-k.k c.loop-k-test.true in omega (arith, c.wide.ensures.0, c.requires.1)

pub loop-k-preserved : goal.loop-k-preserved
loop-k-preserved c =
    let a = c.args in
    let l = c.loop-k in
    let r : l.k < length l.to = omega (arith, l.invariant.0) in (
      search rules,
      column_more (λ j. cell a.rows.now (at a.ends.now j) a.i) l.to l.k _ r (ap (λ z. cell a.rows.now z a.i) c.wide.ensures.0) l.invariant.1,
    )

pub returns : goal.returns
returns c = (c.loop-k.invariant.0, λ k l. c.loop-k.invariant.1 k (omega arith))
