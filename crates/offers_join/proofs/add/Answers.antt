-- `offers_join::add` meets its contract: the value is that of the first offer that has one. Assumes nothing.
use mathlib.Core.Path.{sym, ◌∙◌}
use Prim.Native.Nat.{◌≤◌}
use native.Mathlib.Omega.{arith}
use Rattle.paper.specs.Limits.{limits}
use Rattle.offers.specs.Rows.{cell}
use Rattle.offers.proofs.Cells.{most_under}
use Rattle.offers.proofs.Rows.{led_holds}
use Rattle.offers_join.proofs.Joins.{taken-new, taken-old}
use Rattle.offers_join.proofs.add.Goals as goal

pub paths_of-p-requires : goal.paths_of-p-requires
paths_of-p-requires c = omega (arith, c.requires)

pub overflow_mul-m : goal.overflow_mul-m
overflow_mul-m c = omega (arith, c.requires)

pub offset_bounds-rows-i : goal.offset_bounds-rows-i
offset_bounds-rows-i c = omega arith

pub bounds-rows-i : goal.bounds-rows-i
bounds-rows-i c = omega (arith, c.requires, c.lead.auto)

pub overflow_add-f : goal.overflow_add-f
overflow_add-f c = omega arith

pub offset_bounds-rows-i-2 : goal.offset_bounds-rows-i-2
offset_bounds-rows-i-2 c = omega arith

pub bounds-rows-i-2 : goal.bounds-rows-i-2
bounds-rows-i-2 c = omega (arith, c.requires, c.lead.auto)

pub bit_of-b-requires : goal.bit_of-b-requires
bit_of-b-requires c = c.requires.0.0

pub overflow_add-result : goal.overflow_add-result
overflow_add-result c = omega (arith, c.if-h-eq0.true, c.requires)

pub overflow_mul-result : goal.overflow_mul-result
overflow_mul-result c = omega (arith, c.requires)

pub overflow_add-result-then-h-eq0 : goal.overflow_add-result-then-h-eq0
overflow_add-result-then-h-eq0 c = omega (arith, c.if-h-eq0.true, c.requires)

pub offset_bounds-rows-i-then-h-eq0 : goal.offset_bounds-rows-i-then-h-eq0
offset_bounds-rows-i-then-h-eq0 c = omega (arith, c.requires)

pub bounds-rows-i-then-h-eq0 : goal.bounds-rows-i-then-h-eq0
bounds-rows-i-then-h-eq0 c = omega (arith, c.requires, c.lead.auto)

pub overflow_mul-result-then-h-eq0 : goal.overflow_mul-result-then-h-eq0
overflow_mul-result-then-h-eq0 c = omega (arith, c.requires)

pub overflow_add-result-then-h-eq0-2 : goal.overflow_add-result-then-h-eq0-2
overflow_add-result-then-h-eq0-2 c = omega (arith, c.if-h-eq0.true, c.requires)

pub offset_bounds-rows-i-then-h-eq0-2 : goal.offset_bounds-rows-i-then-h-eq0-2
offset_bounds-rows-i-then-h-eq0-2 c = omega (arith, c.requires)

pub bounds-rows-i-then-h-eq0-2 : goal.bounds-rows-i-then-h-eq0-2
bounds-rows-i-then-h-eq0-2 c = omega (arith, c.requires, c.lead.auto)

pub overflow_add-result-2 : goal.overflow_add-result-2
overflow_add-result-2 c = omega (arith, c.if-h-eq0.false, c.requires)

pub shape_of-rows-then-h-eq0 : goal.shape_of-rows-then-h-eq0
shape_of-rows-then-h-eq0 c = c.lead.auto.rows

pub returns-then-h-eq0 : goal.returns-then-h-eq0
returns-then-h-eq0 c = (
  omega (arith, c.paths_of-p.ensures.1),
  λ t ts ps b l k.
      let a = c.args in
      let p = c.paths_of-p in
      let g = c.lead in
      let few : cell a.rows.now a.i 4 ≤ limits.most_paths = omega (arith, (b.rows a.i l).paths-are, (b.rows a.i l).few) in (
        led_holds t a.rows.now g.new.rows a.count a.w.paths a.i p.result ts b g.ensures,
        taken-new t a.rows.now g.new.rows a.count ts ps a.w a.i p.result c.bit_of-b.result l b k g.ensures (p.ensures.0 ∙ sym (most_under (cell a.rows.now a.i 4) few)) c.bit_of-b.ensures c.if-h-eq0.true,
      ),
)

pub shape_of-rows : goal.shape_of-rows
shape_of-rows c = c.lead.auto.rows

pub returns : goal.returns
returns c = (
  omega (arith, c.paths_of-p.ensures.1),
  λ t ts ps b l k.
      let a = c.args in
      let p = c.paths_of-p in
      let g = c.lead in
      let few : cell a.rows.now a.i 4 ≤ limits.most_paths = omega (arith, (b.rows a.i l).paths-are, (b.rows a.i l).few) in (
        led_holds t a.rows.now g.new.rows a.count a.w.paths a.i p.result ts b g.ensures,
        taken-old t a.rows.now g.new.rows a.count ts ps a.w a.i p.result c.bit_of-b.result l b k g.ensures (p.ensures.0 ∙ sym (most_under (cell a.rows.now a.i 4) few)) c.bit_of-b.ensures c.if-h-eq0.false,
      ),
)
