-- `climb`: at the levels gone through some are left. Assumes nothing.
use mathlib.Core.Bool.{true, false}
use mathlib.Core.Path.{◌≡◌, refl, subst}
use Prim.Native.Nat.{suc, ◌+◌}
use native.Mathlib.Omega.{arith}
use Rattle.paper.specs.Choices.{how_many}
use Rattle.paper.specs.Operations.{levels, SomeLeft}
use Rattle.paper.proofs.Levels.{some-at_0}
use Rattle.why.specs.Reasons.{Whether}
use Rattle.why.proofs.Asked.{climbed_empty, climbed_all}
use Rattle.why.proofs.climb.Goals as goal

pub loop-k-init : goal.loop-k-init
loop-k-init c = λ d s. some-at_0 (levels d c.args.node) (how_many d)

pub is_left-requires : goal.is_left-requires
is_left-requires c = c.requires

pub returns-then-not-is_left : goal.returns-then-not-is_left
returns-then-not-is_left c = λ d s.
    let a = c.args in
    let l = c.loop-k in
    let n : Whether (levels d a.node) (how_many d) (suc l.k) false = rw c.if-not-is_left.true at (c.is_left.ensures (omega arith) d s) in
    climbed_empty (levels d a.node) (how_many d) l.k (l.invariant d s) n (l.k + 1) refl

pub loop-k-preserved : goal.loop-k-preserved
loop-k-preserved c = λ d s.
    let a = c.args in
    let l = c.loop-k in
    let n : Whether (levels d a.node) (how_many d) (suc l.k) true = rw c.if-not-is_left.false at (c.is_left.ensures (omega arith) d s) in
    let e : suc l.k ≡ l.k + 1 = omega arith in
    subst (SomeLeft (levels d a.node) (how_many d)) e n

pub returns : goal.returns
returns c = λ d s.
    let a = c.args in
    let l = c.loop-k in
    let e : l.k ≡ 5 = omega (arith, c.loop-k-test.false) in
    climbed_all d a.node l.k e (l.invariant d s)
