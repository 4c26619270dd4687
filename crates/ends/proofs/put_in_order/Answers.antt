-- `ends::put_in_order` meets its contract: what one part leaves is what the next one reads. Assumes nothing.
use Prim.Native.Nat.{ℕ, ◌<◌}
use native.Mathlib.Omega.{arith}
use borrow.Author.Rules.{rules}
use Rattle.paper.specs.Lists.{at}
use Rattle.paper.proofs.Bools.{never}
use Rattle.ends_paths.proofs.Insertion.{in_order-inside}
use Rattle.ends_order.specs.Order.{by_end}
use Rattle.ends.proofs.Order.{slots_read}
use Rattle.ends.proofs.put_in_order.Goals as goal

pub sort_ends-requires : goal.sort_ends-requires
sort_ends-requires c =
    let k = c.order_paths in
    let p = c.requires in (
      record {
        keys_there = p.0.1.1.0;
        rows-there = p.0.0;
        there = p.0.1.0.there;
        blocks = omega (arith, k.auto);
        room = record { lengths = omega (arith, k.auto, p.1.lens-room); cells-there = omega (arith, k.auto, p.1.cells-room) };
      },
      (slots_read p.0.1.0 (k.ensures p.0.1.1.1), (p.0.1.0.few, search rules)),
    )

pub lay_rows-requires : goal.lay_rows-requires
lay_rows-requires c =
    let a = c.args in
    let k = c.order_paths.new in
    let slots = c.sort_ends.new.slots in
    let by = by_end a.keys.now a.rows.now a.found.now k.sorted k.lens k.cells in
    let slot_inside : (j : ℕ) → j < a.n → at slots j < a.n = λ j l. (in_order-inside by slots 0 a.n c.sort_ends.ensures j (omega arith) l).1 in
    let p = c.requires in (
      (omega (arith, c.sort_ends.auto, p.0.1.0.few), omega (arith, p.0.1.0.few, p.1.ends-room)),
      λ j l. omega (arith, slot_inside j l, p.0.1.0.there, p.0.1.0.few),
    )

pub lay_paths-requires : goal.lay_paths-requires
lay_paths-requires c =
    let a = c.args in
    let k = c.order_paths in
    let slots = c.sort_ends.new.slots in
    let by = by_end a.keys.now a.rows.now a.found.now k.new.sorted k.new.lens k.new.cells in
    let slot_inside : (j : ℕ) → j < a.n → at slots j < a.n = λ j l. (in_order-inside by slots 0 a.n c.sort_ends.ensures j (omega arith) l).1 in
    let p = c.requires in (
      ((p.0.1.0.few, omega (arith, c.sort_ends.auto, p.0.1.0.few)), (omega (arith, k.auto), p.1.order-room)),
      λ j l. omega (arith, slot_inside j l, p.0.1.0.few),
    )

-- what is promised once the blocks are laid, or are not to be shown
pub returns-then-show : goal.returns-then-show
returns-then-show c = record {
  sorted = c.order_paths.new.sorted;
  slots = c.sort_ends.new.slots;
  pathed = c.order_paths.ensures c.requires.0.1.1.1;
  ends-sorted = c.sort_ends.ensures;
  rows_laid = c.lay_rows.ensures;
  blocks_laid = λ e. c.lay_paths.ensures;
}

pub returns-else-show : goal.returns-else-show
returns-else-show c = record {
  sorted = c.order_paths.new.sorted;
  slots = c.sort_ends.new.slots;
  pathed = c.order_paths.ensures c.requires.0.1.1.1;
  ends-sorted = c.sort_ends.ensures;
  rows_laid = c.lay_rows.ensures;
  blocks_laid = λ e. never c.args.show e c.if-show.false;
}
