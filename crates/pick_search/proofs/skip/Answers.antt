-- `skip`: the invariant says that the same is found from where it is. Assumes nothing.
use mathlib.Core.Path.{◌≡◌}
use mathlib.Core.Bool.{true, cond}
use Prim.Native.Nat.{ℕ, ◌+◌, ◌-◌}
use native.Mathlib.Omega.{arith}
use Rattle.pick_bounds.specs.Net.{meets}
use Rattle.pick_search.specs.Searching.{stepped}
use Rattle.pick_search.proofs.Searching.{small-weight, placed_decided, skips, skipped_none, skipped_then}
use Rattle.pick_search.proofs.skip.Goals as goal

pub loop-i-init : goal.loop-i-init
loop-i-init c = let a = c.args in (c.requires.1, λ w. skipped_none w a.m a.left a.p a.b)

pub decide-place-requires : goal.decide-place-requires
decide-place-requires c = let a = c.args in let l = c.loop-i in
    let t = c.loop-i-test.true in
    (small-weight a.m l.i l.place l.invariant.0 (omega arith) c.requires.0, l.invariant.0.small)

pub loop-i-preserved : goal.loop-i-preserved
loop-i-preserved c = let a = c.args in let l = c.loop-i in
    let t = c.loop-i-test.true in
    let most = c.requires.0 in
    rw c.decide-place.ensures (
      placed_decided (λ (x : ℕ). true) a.m l.i l.place a.b l.invariant.0 (omega arith) most,
      λ w. skipped_then w a.m a.left a.p a.b (record { left = l.i; place = l.place }) (record { left = l.i - 1; place = stepped l.place (cond (meets 32 a.b.may l.place.bit) l.place.bit 0) }) (l.invariant.1 w) (skips w a.m l.i l.place a.b l.invariant.0 (omega arith) most (c.is_open.ensures c.if-is_open.false)),
    )

pub returns-then-is_open : goal.returns-then-is_open
returns-then-is_open c = let l = c.loop-i in
    let t = c.loop-i-test.true in
    let e : l.i - 1 + 1 ≡ l.i = omega arith in
    rw e (omega arith, l.invariant.0, l.invariant.1)

pub returns : goal.returns
returns c = let l = c.loop-i in
    let z : l.i ≡ 0 = omega (arith, c.loop-i-test.false) in
    let h = rw z at l.invariant in
    (omega arith, h.0, h.1)
