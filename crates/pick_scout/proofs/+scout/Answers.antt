-- `scout`, a way to answer at a time. Assumes nothing.
use mathlib.Core.Path.{refl, sym, ap, ◌∙◌}
use Prim.Native.Nat.{ℕ, ◌+◌}
use native.Mathlib.Omega.{arith}
use Rattle.pick_bounds.specs.Bounds.{good}
use Rattle.pick_scout.proofs.Scouting.{found-one, found-none, scouts_alive, scouts_dead, lost, struck_all, scouts_with, scouts_without}
use Rattle.pick_scout.proofs.+scout.Goals as goal

pub returns-then-is_dead : goal.returns-then-is_dead
returns-then-is_dead t c = let a = c.args in
    rw c.at_once.ensures (scouts_dead (good a.net.now a.want) a.left a.b 0 (λ x e w. c.is_dead.ensures c.if-is_dead.true x w))

pub returns-in_default : goal.returns-in_default
returns-in_default t c = let a = c.args in
    rw c.at_once-in_default.ensures (scouts_dead (good a.net.now a.want) a.left a.b 0 (c.look.ensures c.in_default.is))

pub returns-in_default-next_of : goal.returns-in_default-next_of
returns-in_default-next_of t c = let a = c.args in
    rw c.at_once-in_default-next_of.ensures (scouts_alive (good a.net.now a.want) a.left a.b c.widest.result)

pub returns-then-is_ok : goal.returns-then-is_ok
returns-then-is_ok t c = let a = c.args in
    let f = c.scout-f in
    scouts_with (good a.net.now a.want) a.left a.b (omega arith) c.settle-with.result f.result f.ensures (found-one _ (sym c.is_ok.ensures.value ∙ c.if-is_ok.true)) c.after.result c.after.ensures.0 c.after.ensures.1

pub returns : goal.returns
returns t c = let a = c.args in
    let w = good a.net.now a.want in
    let with = c.settle-with in
    let end = c.end_of-end in
    let f = c.scout-f in
    let gone = c.twins in
    let k = c.in-Some-next_of.k in
    let none = lost w a.b k c.add.result with.result (c.add.ensures _ end.ensures) with.ensures (f.ensures.sure (found-none _ (sym c.is_ok.ensures.value ∙ c.if-is_ok.false))) in
    let kept = struck_all w a.b k end.result gone.result end.ensures none (gone.ensures none) c.strike.result c.settle-out.result c.strike.ensures c.settle-out.ensures in
    let v = c.scout-v in
    scouts_without w a.left a.b (omega arith) with.result f.result f.ensures c.settle-out.result kept v.result v.ensures
    (f.result.states + 1) refl c.after-2.result (c.after-2.ensures.0 ∙ c.blamed.ensures.0)
    (c.after-2.ensures.1 ∙ ap (λ (k : ℕ). f.result.states + 1 + k) c.blamed.ensures.1)
