-- `gain_node`: one end after the other; the values are one run. Assumes nothing.
use Prim.Native.Nat.{ℕ, ◌+◌, ◌*◌, ◌≤◌}
use mathlib.Core.List.{List}
use mathlib.Core.Path.{◌≡◌, refl}
use native.Mathlib.Omega.{arith}
use lib.ListN.{length}
use Rattle.step_gain.specs.Gains.{brought}
use Rattle.step_gain.proofs.Gaining.{gaining_none, gaining_more, coming-room}
use Rattle.step_gain.proofs.gain_node.Goals as goal

pub loop-k-init : goal.loop-k-init
loop-k-init c = let a = c.args in
    (refl, gaining_none a.target.now a.row.now a.value.now a.w a.i a.place a.extra.now)

pub overflow_mul-many : goal.overflow_mul-many
overflow_mul-many c =
    let here : List ℕ =
    let a = c.args in
    brought a.target.now a.row.now a.value.now a.w a.i c.loop-k.k in
    let room : c.args.place + 4 * (c.loop-k.many + length here) ≤ length c.args.extra.now =
    let a = c.args in
    let s = c.loop-k in
    let l = coming-room a.target.now a.row.now a.value.now a.w a.i a.n s.k c.loop-k-test.true in
    omega (arith, c.requires.3, s.invariant.1.number, l) in
    omega (arith, room)

pub overflow_add-place : goal.overflow_add-place
overflow_add-place c =
    let here : List ℕ =
    let a = c.args in
    brought a.target.now a.row.now a.value.now a.w a.i c.loop-k.k in
    let room : c.args.place + 4 * (c.loop-k.many + length here) ≤ length c.args.extra.now =
    let a = c.args in
    let s = c.loop-k in
    let l = coming-room a.target.now a.row.now a.value.now a.w a.i a.n s.k c.loop-k-test.true in
    omega (arith, c.requires.3, s.invariant.1.number, l) in
    omega (arith, room)

pub gain_end-many-requires : goal.gain_end-many-requires
gain_end-many-requires c =
    let here : List ℕ =
    let a = c.args in
    brought a.target.now a.row.now a.value.now a.w a.i c.loop-k.k in
    let room : c.args.place + 4 * (c.loop-k.many + length here) ≤ length c.args.extra.now =
    let a = c.args in
    let s = c.loop-k in
    let l = coming-room a.target.now a.row.now a.value.now a.w a.i a.n s.k c.loop-k-test.true in
    omega (arith, c.requires.3, s.invariant.1.number, l) in
    let p = c.requires in
    let s = c.loop-k in
    (omega arith, omega (arith, p.2.many), p.2.each-inside s.k c.loop-k-test.true, omega arith, omega (arith, room, s.invariant.0))

pub overflow_add-many : goal.overflow_add-many
overflow_add-many c =
    let here : List ℕ =
    let a = c.args in
    brought a.target.now a.row.now a.value.now a.w a.i c.loop-k.k in
    let room : c.args.place + 4 * (c.loop-k.many + length here) ≤ length c.args.extra.now =
    let a = c.args in
    let s = c.loop-k in
    let l = coming-room a.target.now a.row.now a.value.now a.w a.i a.n s.k c.loop-k-test.true in
    omega (arith, c.requires.3, s.invariant.1.number, l) in
    omega (arith, c.gain_end-many.ensures.0, room)

pub loop-k-preserved : goal.loop-k-preserved
loop-k-preserved c = let a = c.args in
    let s = c.loop-k in
    let g = c.gain_end-many in (
      omega (arith, g.auto, s.invariant.0),
      gaining_more a.target.now a.row.now a.value.now a.w a.i a.place a.extra.now s.extra _ s.many s.k g.result s.invariant.1
          g.ensures.0 g.ensures.1,
    )

pub returns : goal.returns
returns c = let s = c.loop-k in
    let e : s.k ≡ c.args.n = omega arith in
    let g = rw e at s.invariant.1 in
    (g.number, g.bytes)
