-- `write_edge` stores an edge's count, if it has one. Assumes nothing.
use mathlib.Core.Path.{◌≡◌, sym, ◌∙◌}
use mathlib.Core.Bool.{true, false}
use native.Mathlib.Omega.{arith}
use Rattle.paper.specs.Marking.{counted}
use Rattle.marking_write.proofs.WritingLaws.{count-size, uncounted_size, count-bytes, uncounted_bytes}
use Rattle.marking_write.proofs.write_edge.Goals as goal

pub returns-then-not-has_count : goal.returns-then-not-has_count
returns-then-not-has_count c = let a = c.args in
    let k : counted a.t.now a.j ≡ false = sym c.has_count.ensures ∙ c.if-not-has_count.true in
    (omega (arith, uncounted_size a.t.now a.j k), λ l e. rw (uncounted_bytes a.t.now l a.j k))

pub bounds-out-to : goal.bounds-out-to
bounds-out-to c = let a = c.args in
    let k : counted a.t.now a.j ≡ true = sym c.has_count.ensures ∙ c.if-not-has_count.false in
    omega (arith, count-size a.t.now a.j k)

pub returns : goal.returns
returns c = let a = c.args in
    let k : counted a.t.now a.j ≡ true = sym c.has_count.ensures ∙ c.if-not-has_count.false in
    (omega (arith, count-size a.t.now a.j k), λ l e. rw (count-bytes a.t.now l a.j k, e))
